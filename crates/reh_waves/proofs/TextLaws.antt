-- Texts of several parts.
use Rattle.std.proofs.Common.{◌≡◌, ◌∙◌, ◌++◌, ℕ, List, ap}
use Rattle.std.proofs.lemmas.List.{append_assoc}

pub two : (start one both a b : List ℕ) → one ≡ start ++ a → both ≡ one ++ b → both ≡ start ++ (a ++ b)
two start one both a b first second = second ∙ ap (λ xs. xs ++ b) first ∙ append_assoc start a b

pub three : (start one more all a b c : List ℕ) → one ≡ start ++ a → more ≡ one ++ b → all ≡ more ++ c → all ≡ start ++ (a ++ (b ++ c))
three start one more all a b c first second third = two start one all a (b ++ c) first (two one more all b c second third)

pub four : (start one more most all a b c d : List ℕ) → one ≡ start ++ a → more ≡ one ++ b → most ≡ more ++ c → all ≡ most ++ d
    → all ≡ start ++ (a ++ (b ++ (c ++ d)))
four start one more most all a b c d first second third fourth =
    two start one all a (b ++ (c ++ d)) first (three one more most all b c d second third fourth)

-- the numbers of the rules in a line
pub line-parts : (s a b c d l m n : List ℕ)
    → (s ++ (a ++ b)) ++ ((c ++ d) ++ (l ++ (m ++ n))) ≡ s ++ ((a ++ (b ++ (c ++ d))) ++ (l ++ (m ++ n)))
line-parts s a b c d l m n = simp append_assoc

-- the numbers of the rules, one after the other, and the end of the object
pub rules-parts : (o p k a n b u e k' n' u' l r m w q s v d : List ℕ)
    → (o ++ (p ++ (k ++ (a ++ (n ++ (b ++ (u ++ (e ++ (k' ++ (a ++ (n' ++ (b ++ (u' ++ (e ++ (l ++ (r ++ (m ++ w)))))))))))))))))
    ++ (q ++ (s ++ (v ++ (d ++ (e ++ e)))))
    ≡ o
    ++ ((p
    ++ ((k ++ ((a ++ (n ++ (b ++ (u ++ e)))) ++ (k' ++ (a ++ (n' ++ (b ++ (u' ++ e)))))))
    ++ ((l ++ (r ++ (m ++ w))) ++ ((q ++ (s ++ (v ++ d))) ++ e))))
    ++ e)
rules-parts o p k a n b u e k' n' u' l r m w q s v d = simp append_assoc
