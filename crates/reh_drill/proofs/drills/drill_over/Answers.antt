use Rattle.std.proofs.Common.{◌≡◌, ◌≤◌, ◌∙◌, sym, subst, ℕ, Err, List, Vec, Global, map, length, vec_len, arith}
use Rattle.std.proofs.lemmas.List.{length-map}
use Rattle.reh_picture.specs.Pictures.{picture_of}
use Rattle.reh_crew.specs.declared.threads.TheConstants.{MAX_OPERATORS}
use Rattle.reh_drill.proofs.Drilled.{opens_count, count_played, first_loses_none}
use Rattle.reh_drill.proofs.Drilled.{drills_unopened, drills_unbegun, drills_ended}
use Rattle.reh_drill.proofs.drills.drill_over.Goals as goal

pub returns-in_err-desk-clause-drilled : goal.returns-in_err-desk-clause-drilled
returns-in_err-desk-clause-drilled g c =
    drills_unopened (picture_of c.args.picture.now) _ _ c.in_err-desk.field-0.0 c.from_residual.result _
    c.in_err-desk.ensures c.from_residual.ensures.1

pub play_scripts-requires-after_bounds : goal.play_scripts-requires-after_bounds
play_scripts-requires-after_bounds g c κs within =
    let size : vec_len c.args.scripts ≡ length c.args.scripts.items = omega (arith, c.args.scripts.ok.0) in
    opens_count (picture_of c.args.picture.now) _ c.in_ok-desk.field-0 c.in_ok-desk.ensures ∙ c.len.ensures ∙ size

pub returns-clause-drilled : goal.returns-clause-drilled
returns-clause-drilled g c =
    drills_unbegun (picture_of c.args.picture.now) _ c.in_ok-desk.field-0 _ (Err c.from.result) _
    c.in_ok-desk.ensures c.from.ensures

pub end_drill-requires-clause-few : goal.end_drill-requires-clause-few
end_drill-requires-clause-few g c =
    let list : Vec ℕ Global → List ℕ = λ s. s.items in
    subst (λ n. n ≤ MAX_OPERATORS)
    (sym (count_played _ _ _ _ c.in-Ok.ensures ∙ length-map c.args.scripts.items list)) c.requires.few

pub end_drill-requires-clause-kept : goal.end_drill-requires-clause-kept
end_drill-requires-clause-kept g c = first_loses_none _ _ _ _ c.in-Ok.ensures

pub returns-in-Ok-clause-drilled : goal.returns-in-Ok-clause-drilled
returns-in-Ok-clause-drilled g c =
    let list : Vec ℕ Global → List ℕ = λ s. s.items in
    let size : vec_len c.args.scripts ≡ length c.args.scripts.items = omega (arith, c.args.scripts.ok.0) in
    drills_ended (picture_of c.args.picture.now) _ c.in_ok-desk.field-0 (map list c.args.scripts.items)
    c.in-Ok.outcomes.items c.end_drill.result _ _ c.in_ok-desk.ensures
    (c.len.ensures ∙ size ∙ sym (length-map c.args.scripts.items list)) c.in-Ok.ensures c.end_drill.ensures.ends
