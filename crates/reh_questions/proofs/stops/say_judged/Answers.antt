-- The worst of the pictures' ledgers and of those of inventories speak against it.
use Rattle.std.proofs.Common.{◌≡◌, ◌∙◌, ◌++◌, Bool, ap, map, option_copied, option_map, string_bytes, List, String, ℕ}
use Rattle.std.specs.List.{flat_map}
use Rattle.std.specs.declared.alloc.Global.{Global}
use Rattle.reh_against.specs.Worst.{alone}
use Rattle.reh_census.specs.Ledgers.{Ledger}
use Rattle.reh_inventory_against.specs.Files.{ids_in, ledgers_in}
use Rattle.reh_questions.specs.Against.{has_against, is_read_again, lacks_rack, notes_of}
use Rattle.reh_questions.specs.declared.inputs.FileKind.{FileKind}
use Rattle.reh_questions.proofs.AgainstLaws.{answered-same, weighed-same}
use Rattle.reh_questions.proofs.stops.say_judged.Goals as goal

pub returns : goal.returns
returns c =
    let g = c.args.files.gathered in
    let kinds : List FileKind = c.args.files.kinds.items in
    let about = c.stop_of-about.ensures in
    let ledgers : List (List Ledger) = map alone g.ledgers.items in
    let all = c.in_ok-weigh_files.ensures c.deref.result.now ledgers c.in_ok-worst.ensures in
    let is_any : Bool = c.has_against-is_any.result in
    let reads : is_any ≡ has_against c.args.verdict.now.facts.answer =
    c.has_against-is_any.ensures ∙ ap has_against c.answer.ensures in
    let unracked : c.lacks_rack-unracked.result ≡ lacks_rack c.args.asked.now.racks.now g.bookies =
    c.lacks_rack-unracked.ensures ∙ ap (lacks_rack c.args.asked.now.racks.now) c.as_slice.ensures.bookies in
    record {
      verdict = c.args.verdict.now;
      judged = c.requires.judged;
      weighed = all.files;
      are =
          weighed-same c.names.result.now g.cluster.names c.args.inputs.now.strict
          (map (is_read_again is_any) c.deref-3.result.now)
          (map (is_read_again (has_against c.args.verdict.now.facts.answer)) kinds)
          c.deref-4.result.now c.args.files.ids.items all.files c.names.ensures
          (λ i. map (is_read_again (reads i)) (c.deref-3.ensures.value i)) c.deref-4.ensures.value all.are;
      answered =
          answered-same (c.deref.result.now ++ flat_map ids_in all.files) (g.ids.items ++ flat_map ids_in all.files)
          (ledgers ++ flat_map ledgers_in all.files) (option_copied c.time_of-time.result)
          (option_map string_bytes c.args.files.taken) (map string_bytes c.deref-7.result.now)
          (notes_of g.census.judged (lacks_rack c.args.asked.now.racks.now g.bookies) (has_against c.args.verdict.now.facts.answer) c.args.inputs.now.files.items kinds) g c.args.asked.now c.in_ok-said.said
          (ap (λ (ids : List ℕ). ids ++ flat_map ids_in all.files) c.deref.ensures.value) c.time_of-time.ensures
          (ap (λ (notes : List (String Global)). map string_bytes notes) c.deref-7.ensures.value
          ∙ c.in_ok-notes.ensures
          ∙ (λ i. notes_of (c.judged-judged.ensures i) (unracked i) (reads i) (c.deref-5.ensures.value i) (c.deref-6.ensures.value i)))
          (c.in_ok-said.ensures g (c.deref.result.now ++ flat_map ids_in all.files) (ledgers ++ flat_map ledgers_in all.files)
          c.requires.judged
          (record {
            names = about.names;
            bookies = about.bookies;
            stopped = about.stopped;
            question = about.question;
            answer = about.answer;
          })
          all.weighed);
    }
