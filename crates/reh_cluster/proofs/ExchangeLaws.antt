-- What becomes of the parts and of a record as its changes are exchanged one by one.
use Rattle.std.proofs.Common.{◌≡◌, ◌<◌, ◌≤◌, ◌+◌, ℕ, true, false, cond, List, [], ◌∷◌, ◌++◌, length, map, take, drop, get_or, set, nat_eq}
use Rattle.std.proofs.Common.{refl, sym, ap, ◌∙◌, subst, arith, true≢false}
use Rattle.std.specs.Prelude.{All}
use Rattle.std.specs.Cmp.{first_so, second_so}
use Rattle.std.specs.List.{prefix_len}
use Rattle.std.proofs.lemmas.Bool.Decides.{nat_tests}
use Rattle.std.proofs.lemmas.List.{append_assoc, take-append-drop, length-append, length-map, length-take-le}
use Rattle.std.proofs.Math.Seq.{take-append_seam, drop-append_seam}
use Rattle.std.proofs.lemmas.List.Elements.{All-nil, All-cons, All-head, All-tail, All-drop, All-same}
use Rattle.std.proofs.lemmas.List.Sums.{take_while-cons}
use Rattle.reh_types.specs.declared.changes.Change.TheVariants.{Word}
use Rattle.reh_model.specs.Contents.{turned}
use Rattle.reh_model.specs.Cluster.{Parts, Cluster, Ledger, change_at, words_among}
use Rattle.reh_model.specs.WellFormed.{IsWellFormed}
use Rattle.reh_model.specs.Places.{Change, Place, place_of, put, back, put_all, back_all, exchanged, left, AreRising, IsPlaced, Fits}
use Rattle.reh_model.proofs.ListLaws.{set-read}
use Rattle.reh_model.proofs.PlaceLaws.{words_among-put}
use Rattle.reh_model.proofs.ExchangeLaws.{places-back_all, exchanged-left, put_all-append, back_all-append, IsPlaced-put_all, back_all-back_all, Fits-left}
use Rattle.reh_held.specs.RowTurns.{turn_of}
use Rattle.reh_held.specs.Turns.{turned_all, IsWordOf}
use Rattle.reh_held.specs.Values.{HeldValue}
use Rattle.reh_cluster.specs.Parts.{PartsValue, HasRows}
use Rattle.reh_cluster.specs.Runs.{is_word_of}

-- a ledger that is changed where it stands
pub changed_there : (change : Ledger → Ledger) (gs : List Ledger) (i : ℕ) (g new : Ledger) → g ≡ get_or gs i g
    → new ≡ change g → set gs i new ≡ change_at gs i change
changed_there change gs i g new is made = ap (λ (h : Ledger). set gs i h) made ∙ set-read change gs i g is

-- rows go with the ledgers after a change, too
pub rows_put : (p : Parts) (c : Change) (n : ℕ) (held : HeldValue) (gs : List Ledger) → gs ≡ (put p c).ledgers
    → HasRows n p.ledgers held → HasRows n gs held
rows_put p c n held gs made rows = record {
  bookies = rows.bookies;
  words = λ l. rows.words l ∙ sym (ap (λ (hs : List Ledger). words_among hs l) made ∙ words_among-put p c l);
}

-- Words of one row

module _ (b l : ℕ) where
  word_there : (n : ℕ) (p : Parts) (c : Change) → IsPlaced n p c → is_word_of b l c ≡ true
      → IsWordOf (words_among p.ledgers l) b l c
  word_there n p (Word c m k bits) placed same =
      let owner : c ≡ b = grind (arith, nat_tests, first_so (nat_eq c b) (nat_eq m l) same) in
      let id : m ≡ l = grind (arith, nat_tests, second_so (nat_eq c b) (nat_eq m l) same) in
      (owner, id, subst (λ (j : ℕ). k < words_among p.ledgers j) id placed.1)
  word_there n p c placed same = absurd (true≢false (sym same))

  -- the words at the head of a record are of that row
  pub words_of_run : (n : ℕ) (p : Parts) (cs : List Change) → All (IsPlaced n p) cs
      → All (IsWordOf (words_among p.ledgers l) b l) (take (prefix_len (is_word_of b l) cs) cs)
  words_of_run n p [] placed = All-nil (IsWordOf (words_among p.ledgers l) b l)
  words_of_run n p (c ∷ cs) placed =
      let P : Change → Type 0 = IsWordOf (words_among p.ledgers l) b l in
      All-same P _ _ (take_while-cons (is_word_of b l) c cs)
      (elim (is_word_of b l c) as (λ t. is_word_of b l c ≡ t
      → All P (cond t (c ∷ take (prefix_len (is_word_of b l) cs) cs) [])) [
        | true ↦ λ is.
            All-cons P c _ (word_there n p c (All-head (IsPlaced n p) c cs placed) is)
            (words_of_run n p cs (All-tail (IsPlaced n p) c cs placed))
        | false ↦ λ _. All-nil P
      ] refl)

  -- they are exchanged by turning them all
  pub put_all-words : (words : ℕ) (p : Parts) (cs : List Change) → All (IsWordOf words b l) cs
      → put_all p cs ≡ record p { held = turned_all p.held b l (map turn_of cs) }
  put_all-words words p [] of_row = refl
  put_all-words words p (c ∷ cs) of_row =
      put_all-words words (put p c) cs (All-tail (IsWordOf words b l) c cs of_row)
      ∙ ap (λ (q : Parts). record q { held = turned_all q.held b l (map turn_of cs) })
      (turned_first c (All-head (IsWordOf words b l) c cs of_row)) where
        turned_first : (c : Change) → IsWordOf words b l c
            → put p c ≡ record p { held = turned p.held b l (turn_of c).number (turn_of c).bits }
        turned_first (Word d m k bits) is =
            (λ i. record p { held = turned p.held (is.0 i) (is.1 i) k bits })
        turned_first c is = absurd is

  -- and stay as they are
  pub back_all-words : (words : ℕ) (p : Parts) (cs : List Change) → All (IsWordOf words b l) cs → back_all p cs ≡ cs
  back_all-words words p [] of_row = refl
  back_all-words words p (c ∷ cs) of_row =
      (λ i. same c (All-head (IsWordOf words b l) c cs of_row) i ∷ back_all-words words (put p c) cs (All-tail (IsWordOf words b l) c cs of_row) i) where
        same : (c : Change) → IsWordOf words b l c → back p c ≡ c
        same (Word d m k bits) is = refl
        same c is = absurd is

-- The loop over a record

-- of the record cs i changes are exchanged with p: that is q now, and the record ds
pub record IsUnderWay (p : PartsValue) (cs : List Change) (q : PartsValue) (ds : List Change) (i : ℕ) : Type 0 where
  pub within : i ≤ length ds
  pub parts : put_all p.parts cs ≡ put_all q.parts (drop i ds)
  pub left : back_all p.parts cs ≡ take i ds ++ back_all q.parts (drop i ds)
  pub bookies : q.bookies ≡ p.bookies
  pub placed : All (IsPlaced q.bookies q.parts) (drop i ds)

length-back_all : (p : Parts) (cs : List Change) → length (back_all p cs) ≡ length cs
length-back_all p cs =
    sym (length-map (back_all p cs) place_of) ∙ ap (length {A = Place}) (places-back_all p cs) ∙ length-map cs place_of

-- the first changes of those that are left are exchanged, and the loop goes on
pub goes_on : {p q : PartsValue} {cs ds : List Change} {i : ℕ} → IsUnderWay p cs q ds i → (n : ℕ) (u : PartsValue)
    (es : List Change) → n ≤ length (drop i ds) → u ≡ record q { parts = put_all q.parts (take n (drop i ds)) }
    → es ≡ take i ds ++ (back_all q.parts (take n (drop i ds)) ++ drop n (drop i ds)) → IsUnderWay p cs u es (i + n)
goes_on {p} {q} {cs} {ds} {i} now n u es within made leaves =
    let xs : List Change = drop i ds in
    let mid : List Change = back_all q.parts (take n xs) in
    let done : List Change = take i ds ++ mid in
    let rest : List Change = drop n xs in
    let parts : u.parts ≡ put_all q.parts (take n xs) = ap (λ (v : PartsValue). v.parts) made in
    let split : es ≡ done ++ rest = leaves ∙ sym (append_assoc (take i ds) mid rest) in
    let size : i + n ≡ length done =
    omega (
      arith,
      length-append (take i ds) mid,
      length-take-le i ds now.within,
      length-back_all q.parts (take n xs),
      length-take-le n xs within,
    ) in
    let left_over : drop (i + n) es ≡ rest = (λ k. drop (size k) (split k)) ∙ drop-append_seam done rest in
    let whole : take n xs ++ rest ≡ xs = take-append-drop n xs in
    record {
      within = omega (arith, size, ap length split, length-append done rest);
      parts = now.parts ∙ ap (λ (cs : List Change). put_all q.parts cs) (sym whole)
          ∙ put_all-append q.parts (take n xs) rest
          ∙ (λ k. put_all (sym parts k) (sym left_over k));
      left = now.left ∙ ap (λ (cs : List Change). take i ds ++ back_all q.parts cs) (sym whole)
          ∙ ap (λ (cs : List Change). take i ds ++ cs) (back_all-append q.parts (take n xs) rest)
          ∙ sym (append_assoc (take i ds) mid (back_all (put_all q.parts (take n xs)) rest))
          ∙ (λ k. done ++ back_all (sym parts k) (sym left_over k))
          ∙ ap (λ (cs : List Change). cs ++ back_all u.parts (drop (i + n) es))
          (sym ((λ k. take (size k) (split k)) ∙ take-append_seam done rest));
      bookies = ap (λ (v : PartsValue). v.bookies) made ∙ now.bookies;
      placed = subst (λ (v : PartsValue). All (IsPlaced v.bookies v.parts) (drop (i + n) es)) (sym made)
          (All-same (IsPlaced q.bookies (put_all q.parts (take n xs))) _ _ left_over (λ k d within.
          IsPlaced-put_all q.bookies q.parts (take n xs) _
          (All-drop (IsPlaced q.bookies q.parts) n xs now.placed k d within)));
    }

-- What comes of an exchange, and the record that it leaves

pub rising_kept : (p : Parts) (cs ds : List Change) → ds ≡ back_all p cs → AreRising (map place_of cs)
    → AreRising (map place_of ds)
rising_kept p cs ds leaves rising =
    subst AreRising (sym (ap (λ (xs : List Change). map place_of xs) leaves ∙ places-back_all p cs)) rising

module _ (s t : Cluster) (cs ds : List Change) (made : t ≡ exchanged s cs) (leaves : ds ≡ left s cs)
    (rising : AreRising (map place_of cs)) where
  pub fits_again : IsWellFormed s → Fits s cs → Fits t ds
  fits_again well fits =
      subst (λ (x : Cluster). Fits x ds) (sym made)
      (subst (λ (xs : List Change). Fits (exchanged s cs) xs) (sym leaves) (Fits-left s cs well rising fits))

  pub brought_back : exchanged t ds ≡ s
  brought_back = (λ i. exchanged (made i) (leaves i)) ∙ exchanged-left s cs rising

  pub left_again : left t ds ≡ cs
  left_again = (λ i. left (made i) (leaves i)) ∙ back_all-back_all s.parts cs rising
