-- What the picture lists, and the words name.
use Rattle.std.proofs.Common.{◌∙◌, ap, map, refl, subst, List, ℕ}
use Rattle.std.specs.Borrow.{Bor}
use Rattle.reh_picture.specs.Marks.{BookieMarks}
use Rattle.reh_plan.specs.Named.{AreNamed}
use Rattle.reh_inventory_plan.specs.Pictures.{is_set, racks_of}
use Rattle.rehearse.specs.Plans.{AreAllowed}
use Rattle.rehearse.proofs.plans.asked_of.Goals as goal

pub returns : goal.returns
returns c =
    let names : List (List ℕ) = c.args.names.now in
    record {
      listed = c.in_ok-marks.field-0;
      lists = c.in_ok-marks.ensures.listed;
      lost = subst (λ (words : List (Bor (List ℕ))). AreNamed names words c.in_ok-bookies_of.field-0) c.deref-3.ensures.value
          c.in_ok-bookies_of.ensures;
      allowed = subst (λ (words : List (Bor (List ℕ))). AreAllowed names words c.in_ok-allowed_of.field-0)
          c.deref-4.ensures.value c.in_ok-allowed_of.ensures;
      read_only = λ b.
          c.in_ok-read_only.ensures b
          ∙ ap (λ (marks : List BookieMarks). is_set (map (λ m. m.is_read_only) marks) b) c.deref.ensures.value;
      racks = c.in_ok-racks.ensures
          ∙ ap (λ (marks : List BookieMarks). racks_of marks c.args.words.now.min_racks) c.deref-2.ensures.value;
      writers = refl;
    }
