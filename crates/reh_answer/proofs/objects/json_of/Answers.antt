use Rattle.std.proofs.Common.{◌≡◌, ◌∙◌, ◌++◌, ℕ, List, ap, map, option_copied, string_bytes, Option, String, Global}
use Rattle.std.specs.Prelude.{codes}
use Rattle.json.specs.Print.{print}
use Rattle.json.specs.Token.{Token}
use Rattle.json.specs.Tree.{json_tokens}
use Rattle.reh_answer.specs.Objects as objects
use Rattle.reh_answer.specs.Texts.{notes_of}
use Rattle.reh_answer.proofs.ObjectLaws.{line-reads}
use Rattle.reh_answer.proofs.objects.json_of.Goals as goal

pub returns-clause-text : goal.returns-clause-text
returns-clause-text c =
    let names : List (List ℕ) = map string_bytes c.args.names.now in
    let taken : Option (List ℕ) = option_copied c.args.taken in
    let further : List (List ℕ) = map string_bytes c.args.further.now in
    let noted : map string_bytes c.deref.result.now ≡ notes_of c.args.facts.now names taken =
    ap (λ (notes : List (String Global)). map string_bytes notes) c.deref.ensures.value ∙ c.in_ok-notes.ensures in
    c.in_ok-push_str.ensures.bytes
    ∙ ap (λ (line : List ℕ). line ++ codes "\n")
    (c.in_ok-text.ensures.text
    ∙ ap (λ (ts : List Token). print ts)
    (c.in_ok-add_all.ensures.tokens
    ∙ (λ i. c.new-json.ensures.tokens i
    ++ json_tokens (objects.answer_with c.args.facts.now (noted i) c.args.against.now taken further))))

-- the line reads back
pub returns-clause-reads_back : goal.returns-clause-reads_back
returns-clause-reads_back c =
    let names : List (List ℕ) = map string_bytes c.args.names.now in
    let taken : Option (List ℕ) = option_copied c.args.taken in
    let further : List (List ℕ) = map string_bytes c.args.further.now in
    let noted : map string_bytes c.deref.result.now ≡ notes_of c.args.facts.now names taken =
    ap (λ (notes : List (String Global)). map string_bytes notes) c.deref.ensures.value ∙ c.in_ok-notes.ensures in
    record {
      line = string_bytes c.in_ok-text.text;
      ends = c.in_ok-push_str.ensures.bytes;
      reads =
          line-reads c.args.facts.now names c.args.against.now taken further (string_bytes c.in_ok-text.text)
          (c.in_ok-text.ensures.reads_back
          ∙ c.in_ok-add_all.ensures.tokens
          ∙ (λ i. c.new-json.ensures.tokens i
          ++ json_tokens (objects.answer_with c.args.facts.now (noted i) c.args.against.now taken further)));
    }
