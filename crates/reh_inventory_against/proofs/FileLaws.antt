-- One file more.
use Rattle.std.proofs.Common.{◌≡◌, ◌∙◌, ◌++◌, ◌∷◌, [], ℕ, Bool, true, false, List, Vec, ap, refl, sym, subst, append-nil, append_assoc}
use Rattle.std.specs.List.{flat_map}
use Rattle.std.specs.declared.alloc.Global.{Global}
use Rattle.std.proofs.lemmas.Grind.{flat_map-append}
use Rattle.std.proofs.lemmas.List.{map-append}
use Rattle.reh_against.specs.declared.stops.Stop.{Stop}
use Rattle.reh_against.specs.declared.worst.Worst.{Worst}
use Rattle.reh_against.specs.Weighed.{WeighsBy}
use Rattle.reh_against.proofs.FoundLaws.{Each-push}
use Rattle.reh_census.specs.Ledgers.{Ledger}
use Rattle.reh_inventory_against.specs.Files.{HaveWeighed, IsWeighedOf, Weighed, ids_in, ledgers_in, was_read}
use Rattle.reh_inventory_against.specs.Reread.{HasWeighed, WeighsIf}

module _ (stop : Stop) (names : List (List ℕ)) (strict : Bool) where
  -- no file was weighed
  pub weighed-none : (ids : List ℕ) (ledgers : List (List Ledger)) (worst : Worst) → WeighsBy stop ids ledgers worst
      → HaveWeighed stop names strict [] [] ids ledgers worst
  weighed-none ids ledgers worst was = record {
    files = [];
    are = record { flags_are = refl; each = tt };
    weighed =
        subst (λ (xs : List ℕ). WeighsBy stop xs (ledgers ++ []) worst) (sym (append-nil ids))
        (subst (λ (gs : List (List Ledger)). WeighsBy stop ids gs worst) (sym (append-nil ledgers)) was);
  }

  -- a file more
  weighed-more : (flags : List Bool) (kept : List (Vec ℕ Global)) (ids : List ℕ) (ledgers : List (List Ledger)) (old new : Worst)
      (k : Vec ℕ Global) (file : Weighed) → IsWeighedOf names strict k file
      → (was : HaveWeighed stop names strict flags kept ids ledgers old)
      → WeighsBy stop ((ids ++ flat_map ids_in was.files) ++ file.ids) ((ledgers ++ flat_map ledgers_in was.files) ++ file.ledgers) new
      → HaveWeighed stop names strict (flags ++ file.is_read ∷ []) (kept ++ k ∷ []) ids ledgers new
  weighed-more flags kept ids ledgers old new k file is was weighed =
      let more-ids : (ids ++ flat_map ids_in was.files) ++ file.ids ≡ ids ++ flat_map ids_in (was.files ++ file ∷ []) =
      append_assoc ids (flat_map ids_in was.files) file.ids
      ∙ ap (λ (xs : List ℕ). ids ++ xs)
      (ap (λ (xs : List ℕ). flat_map ids_in was.files ++ xs) (sym (append-nil file.ids))
      ∙ sym (flat_map-append ids_in was.files (file ∷ []))) in
      let more : (ledgers ++ flat_map ledgers_in was.files) ++ file.ledgers ≡ ledgers ++ flat_map ledgers_in (was.files ++ file ∷ []) =
      append_assoc ledgers (flat_map ledgers_in was.files) file.ledgers
      ∙ ap (λ (gs : List (List Ledger)). ledgers ++ gs)
      (ap (λ (gs : List (List Ledger)). flat_map ledgers_in was.files ++ gs) (sym (append-nil file.ledgers))
      ∙ sym (flat_map-append ledgers_in was.files (file ∷ []))) in
      record {
        files = was.files ++ file ∷ [];
        are = record {
          flags_are = map-append was_read was.files (file ∷ []) ∙ ap (λ (fs : List Bool). fs ++ file.is_read ∷ []) was.are.flags_are;
          each = Each-push (IsWeighedOf names strict) kept was.files k file was.are.each is;
        };
        weighed =
            subst (λ (xs : List ℕ). WeighsBy stop xs (ledgers ++ flat_map ledgers_in (was.files ++ file ∷ [])) new) more-ids
            (subst (λ (gs : List (List Ledger)). WeighsBy stop ((ids ++ flat_map ids_in was.files) ++ file.ids) gs new) more weighed);
      }

  -- that was read once more, or wasn't
  pub weighed-next : (flag : Bool) (flags : List Bool) (kept : List (Vec ℕ Global)) (ids : List ℕ) (ledgers : List (List Ledger))
      (old new : Worst) (k : Vec ℕ Global) → WeighsIf stop names strict flag k.items old new
      → HaveWeighed stop names strict flags kept ids ledgers old
      → HaveWeighed stop names strict (flags ++ flag ∷ []) (kept ++ k ∷ []) ids ledgers new
  weighed-next true flags kept ids ledgers old new k all was =
      let now : HasWeighed stop names strict k.items (ids ++ flat_map ids_in was.files) (ledgers ++ flat_map ledgers_in was.files) new =
      all (ids ++ flat_map ids_in was.files) (ledgers ++ flat_map ledgers_in was.files) was.weighed in
      weighed-more flags kept ids ledgers old new k
      (record { is_read = true; ids = now.more_ids; ledgers = now.more }) now.reread was now.weighed
  weighed-next false flags kept ids ledgers old new k same was =
      subst (λ (worst : Worst). HaveWeighed stop names strict (flags ++ false ∷ []) (kept ++ k ∷ []) ids ledgers worst) (sym same)
      (weighed-more flags kept ids ledgers old old k (record { is_read = false; ids = []; ledgers = [] }) (refl, refl) was
      (subst (λ (xs : List ℕ). WeighsBy stop xs ((ledgers ++ flat_map ledgers_in was.files) ++ []) old)
      (sym (append-nil (ids ++ flat_map ids_in was.files)))
      (subst (λ (gs : List (List Ledger)). WeighsBy stop (ids ++ flat_map ids_in was.files) gs old)
      (sym (append-nil (ledgers ++ flat_map ledgers_in was.files))) was.weighed)))
