-- The first line of a text.
use Rattle.std.proofs.Common.{◌≡◌, ℕ, suc, ◌+◌, ◌==◌, ◌<◌, Bool, true, false, cond, not, List, [], ◌∷◌, length, take, drop, refl, sym, ap, ◌∙◌, arith, Some, None, position, ◌-◌, ◌≤◌, nat_lt}
use Rattle.std.proofs.lemmas.List.{take_rest, take_all, drop_all}
use Rattle.std.proofs.lemmas.Option.{cond_some}
use Rattle.std.specs.List.{position_or_len, prefix_len}
use Rattle.std.specs.List.{onto_first}
use Rattle.reh_lines.specs.Lines.{lines_of}

abbrev no_lf : ℕ → Bool
no_lf b = not (b == 10)

-- one more byte in front of a text whose lines are its first line and those of what follows
lines_at_more : (b : ℕ) (bs : List ℕ) (t : Bool) → onto_first b (lines_of bs) ≡ (b ∷ take (prefix_len no_lf bs) bs) ∷ lines_of (drop (prefix_len no_lf bs + 1) bs) → cond t ([] ∷ lines_of bs) (onto_first b (lines_of bs)) ≡ take (cond (not t) (1 + prefix_len no_lf bs) 0) (b ∷ bs) ∷ lines_of (drop (cond (not t) (1 + prefix_len no_lf bs) 0 + 1) (b ∷ bs))
lines_at_more b bs true h = refl
lines_at_more b bs false h =
    let e : 1 + prefix_len no_lf bs ≡ suc (prefix_len no_lf bs) = omega arith in
    let f : 1 + prefix_len no_lf bs + 1 ≡ suc (prefix_len no_lf bs + 1) = omega arith in
    h ∙ ap (λ n. take n (b ∷ bs) ∷ lines_of (drop (prefix_len no_lf bs + 1) bs)) (sym e) ∙ ap (λ n. take (1 + prefix_len no_lf bs) (b ∷ bs) ∷ lines_of (drop n (b ∷ bs))) (sym f)

-- a text's lines are its first line and those of what follows
lines_at : (b : ℕ) (bs : List ℕ) → lines_of (b ∷ bs) ≡ take (prefix_len no_lf (b ∷ bs)) (b ∷ bs) ∷ lines_of (drop (prefix_len no_lf (b ∷ bs) + 1) (b ∷ bs))
lines_at b [] = lines_at_more b [] (b == 10) refl
lines_at b (c ∷ cs) = lines_at_more b (c ∷ cs) (b == 10) (ap (onto_first b) (lines_at c cs))

pub lines_first : (xs : List ℕ) → 0 < length xs → lines_of xs ≡ take (position_or_len (λ b. b == 10) xs) xs ∷ lines_of (drop (position_or_len (λ b. b == 10) xs + 1) xs)
lines_first [] h = absurd (omega arith)
lines_first (b ∷ bs) h = lines_at b bs

-- with an LF
pub lines_some : (xs : List ℕ) (i : ℕ) → 0 < length xs → Some i ≡ position (λ b. b == 10) xs → lines_of xs ≡ take i xs ∷ lines_of (take (length xs - (i + 1)) (drop (i + 1) xs))
lines_some xs i h p =
    let n : ℕ = position_or_len (λ b. b == 10) xs in
    let e : n ≡ i = (cond_some (nat_lt n (length xs)) n i (sym p)).1 in
    lines_first xs h
    ∙ ap (λ k. take k xs ∷ lines_of (drop (k + 1) xs)) e
    ∙ ap (λ r. take i xs ∷ lines_of r) (sym (take_rest xs (i + 1)))

-- with no LF
pub lines_none : (xs : List ℕ) → 0 < length xs → None ≡ position (λ b. b == 10) xs → lines_of xs ≡ xs ∷ lines_of (take (length xs - length xs) (drop (length xs) xs))
lines_none xs h p =
    let long : length xs ≤ position_or_len (λ b. b == 10) xs = grind (arith, p) in
    lines_first xs h
    ∙ ap (λ l. l ∷ lines_of (drop (position_or_len (λ b. b == 10) xs + 1) xs)) (take_all _ xs long)
    ∙ ap (λ r. xs ∷ lines_of r) (drop_all _ xs (omega arith) ∙ sym (drop_all (length xs) xs (omega arith)) ∙ sym (take_rest xs (length xs)))
