-- What a bookie holds of a word's entries, as the tokens of ranges.
use Rattle.std.proofs.Common.{◌≡◌, ◌<◌, ◌∙◌, ℕ, Bool, List, ◌∷◌, ◌++◌, ap, map, subst}
use Rattle.std.specs.Prelude.{◌/◌, ◌%◌, ◌^◌, ◌==◌, slice_index, bit_and, codes}
use Rattle.std.specs.Int.{bit_at, bit_not, w64}
use Rattle.json.specs.Token.{Token, key}
use Rattle.json.specs.Tree.{json_tokens}
use Rattle.reh_model.specs.Contents.{is_in_word}
use Rattle.reh_model.specs.Cluster.{Cluster, holds}
use Rattle.reh_answer.specs.Objects.{list_json, member_tokens}
use Rattle.reh_changes.specs.Changes.{is_gained, is_gone}
use Rattle.reh_changes.specs.Ranges.{ranges_in}
use Rattle.reh_changes.proofs.WordLaws.{gained, gone}
use Rattle.reh_run_json.specs.Changes.{gained_json, gone_json}
use Rattle.reh_run_json.specs.Values.{range_json}

-- the tokens of the list of ranges of the entries that pass a test
abbrev pub ranges_tokens : ℕ → (ℕ → Bool) → List Token
ranges_tokens number test = json_tokens (list_json (map range_json (ranges_in number test)))

-- those of the entries that the bookie holds, and of those that it doesn't
pub turned-tokens : (s : Cluster) (b l number bits held : ℕ) (row : List ℕ) → held ≡ slice_index row number → held < 2 ^ 64
    → ((e : ℕ) → (bit_at (slice_index row (e / 64)) (e % 64) == 1) ≡ holds s b l e)
    → key (codes "gained") ∷ (ranges_tokens number (is_in_word number (bit_and bits held))
    ++ (key (codes "gone") ∷ ranges_tokens number (is_in_word number (bit_and bits (bit_not w64 held)))))
    ≡ member_tokens (codes "gained") (gained_json s b l number bits) ++ member_tokens (codes "gone") (gone_json s b l number bits)
turned-tokens s b l number bits held row is small held_is =
    let gains : is_in_word number (bit_and bits held) ≡ is_gained s b l number bits =
    ap (λ (word : ℕ). is_in_word number (bit_and bits word)) is ∙ gained s b l number bits row held_is in
    let goes : is_in_word number (bit_and bits (bit_not w64 held)) ≡ is_gone s b l number bits =
    ap (λ (word : ℕ). is_in_word number (bit_and bits (bit_not w64 word))) is ∙ gone s b l number bits row (subst (λ (word : ℕ). word < 2 ^ 64) is small) held_is in
    (λ k. key (codes "gained") ∷ (ranges_tokens number (gains k) ++ (key (codes "gone") ∷ ranges_tokens number (goes k))))
