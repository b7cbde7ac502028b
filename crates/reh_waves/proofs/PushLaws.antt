-- What a call adds to a text.
use Rattle.std.proofs.Common.{◌≡◌, ◌∙◌, ◌++◌, ℕ, List, ap, append_assoc, Result, Ok, Err, OnOk, is_ok, if◌then◌else◌}
use Rattle.std.specs.declared.alloc.AllocError.{AllocError}

abbrev pub Done : Type 0
Done = Result (Unit {0}) AllocError

-- where the call says what it leaves
pub written : (r : Done) (end text old : List ℕ) → end ≡ (if is_ok r then text else old) → OnOk r (end ≡ text)
written (Ok u) end text old is = is
written (Err e) end text old is = tt

-- what is added is the same
pub instead : (r : Done) (end first part other : List ℕ) → part ≡ other
    → OnOk r (end ≡ first ++ part) → OnOk r (end ≡ first ++ other)
instead (Ok u) end first part other same is = is ∙ ap (λ t. first ++ t) same
instead (Err e) end first part other same is = is

-- what is added before the rest
pub before : (r : Done) (end first next part rest : List ℕ) → next ≡ first ++ part → OnOk r (end ≡ next ++ rest)
    → OnOk r (end ≡ first ++ (part ++ rest))
before (Ok u) end first next part rest added is = is ∙ ap (λ t. t ++ rest) added ∙ append_assoc first part rest
before (Err e) end first next part rest added is = is
