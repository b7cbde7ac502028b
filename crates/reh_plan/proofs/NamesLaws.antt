-- Bookies that words name, word by word.
use Rattle.std.proofs.Common.{◌≡◌, ◌∙◌, ◌+◌, ◌≤◌, ◌||◌, ◌∷◌, [], ◌++◌, ℕ, Bool, true, false, List, Bor, refl, ap, sym}
use Rattle.std.proofs.Common.{subst, inl, inr, arith, take, length, nat_eq, true≢false, Option, Some, None}
use Rattle.std.specs.Prelude.{◌==◌, is_some, slice_get}
use Rattle.std.specs.List.{list_any}
use Rattle.std.specs.Cmp.{unsigned_tied}
use Rattle.std.specs.Ordering.{nat_cmp, eq_by_cmp}
use Rattle.std.specs.Option.{IsSomeAnd, option_map_or}
use Rattle.std.proofs.Math.Bool.{or-false}
use Rattle.std.proofs.lemmas.Bool.{cases_lt}
use Rattle.std.proofs.lemmas.Bool.Decides.{nat_tests}
use Rattle.std.proofs.lemmas.List.{take_all, take_more}
use Rattle.std.proofs.lemmas.List.Folds.{list_any-append}
use Rattle.std.proofs.lemmas.Option.{get_or_from_slice_get, slice_get_within}
use Rattle.reh_types.specs.Sets as set
use Rattle.reh_types.specs.Sets.{Set, numbers, contains-empty, contains-insert}
use Rattle.reh_model.specs.Cluster.{bookie_named}
use Rattle.reh_plan.specs.Named.{AreNamed, IsNamedTwice, NameOnce, is_name_of, is_named_before}

module _ (names : List (List ℕ)) (words : List (Bor (List ℕ))) where
  -- what holds of the words below that number
  pub record AreNamedBelow (n : ℕ) (bookies : Set numbers) : Type 0 where
    pub once : NameOnce names words n
    pub all : (bookie : ℕ) → set.contains bookies bookie ≡ list_any (is_name_of names bookie) (take n words)

  pub named-none : AreNamedBelow 0 set.empty
  named-none = record {
    once = λ number bookie word below. absurd (omega (arith, below));
    all = λ bookie. contains-empty numbers bookie;
  }

  -- the word of that number is this one
  the_word : (n : ℕ) (word other : Bor (List ℕ)) → slice_get words n ≡ Some word → slice_get words n ≡ Some other
      → word ≡ other
  the_word n word other there is = ap (option_value word) (sym there ∙ is) where
    option_value : Bor (List ℕ) → Option (Bor (List ℕ)) → Bor (List ℕ)
    option_value d None = d
    option_value d (Some x) = x

  itself : (b q : ℕ) → eq_by_cmp nat_cmp q b ≡ (b == q)
  itself b q = unsigned_tied q b ∙ turned where
    turned : nat_eq q b ≡ nat_eq b q
    turned = grind (arith, nat_tests)

  or_turned : (a b : Bool) → (a || b) ≡ (b || a)
  or_turned true true = refl
  or_turned true false = refl
  or_turned false true = refl
  or_turned false false = refl

  pub named-more : (n bookie : ℕ) (word : Bor (List ℕ)) (bookies : Set numbers) → slice_get words n ≡ Some word
      → bookie_named names word.now ≡ Some bookie → set.contains bookies bookie ≡ false
      → AreNamedBelow n bookies → AreNamedBelow (n + 1) (set.insert bookies bookie)
  named-more n bookie word bookies here named fresh was = record {
    once = λ number b other below there names_it.
        elim (cases_lt number n) [
          | inl before ↦ was.once number b other before there names_it
          | inr at ↦
              let same : number ≡ n = omega (arith, below, at) in
              let this : word ≡ other = the_word n word other here (ap (slice_get words) (sym same) ∙ there) in
              let one : bookie ≡ b =
              ap (option_value bookie)
              (sym named ∙ ap (λ (w : Bor (List ℕ)). bookie_named names w.now) this ∙ names_it) in
              ap (λ k. is_named_before names words k b) same
              ∙ sym (was.all b) ∙ ap (set.contains bookies) (sym one) ∙ fresh
        ];
    all = λ b.
        contains-insert bookies bookie b
        ∙ (λ i. itself bookie b i || was.all b i)
        ∙ or_turned (bookie == b) (list_any (is_name_of names b) (take n words))
        ∙ ap (λ x. list_any (is_name_of names b) (take n words) || x)
        (ap (λ (o : Option ℕ). option_map_or (λ k. k == b) o false) (sym named)
        ∙ sym (or-false (is_name_of names b word)))
        ∙ sym (list_any-append (is_name_of names b) (take n words) (word ∷ []))
        ∙ ap (λ w. list_any (is_name_of names b) (take n words ++ w ∷ []))
        (sym (get_or_from_slice_get words n word word here))
        ∙ ap (list_any (is_name_of names b)) (sym (take_more words n word (slice_get_within words n word here)));
  } where
    option_value : ℕ → Option ℕ → ℕ
    option_value d None = d
    option_value d (Some x) = x

  -- a word that names none
  pub named-none_more : (n : ℕ) (word : Bor (List ℕ)) (bookies : Set numbers) → slice_get words n ≡ Some word
      → bookie_named names word.now ≡ None → AreNamedBelow n bookies → AreNamedBelow (n + 1) bookies
  named-none_more n word bookies here unknown was = record {
    once = λ number b other below there names_it.
        elim (cases_lt number n) [
          | inl before ↦ was.once number b other before there names_it
          | inr at ↦
              let same : number ≡ n = omega (arith, below, at) in
              let this : word ≡ other = the_word n word other here (ap (slice_get words) (sym same) ∙ there) in
              absurd (true≢false (ap is_some (sym names_it ∙ ap (λ (w : Bor (List ℕ)). bookie_named names w.now) (sym this)
              ∙ unknown)))
        ];
    all = λ b.
        was.all b
        ∙ sym (or-false (list_any (is_name_of names b) (take n words)))
        ∙ ap (λ x. list_any (is_name_of names b) (take n words) || x)
        (ap (λ (o : Option ℕ). option_map_or (λ k. k == b) o false || false) (sym unknown))
        ∙ sym (list_any-append (is_name_of names b) (take n words) (word ∷ []))
        ∙ ap (λ w. list_any (is_name_of names b) (take n words ++ w ∷ []))
        (sym (get_or_from_slice_get words n word word here))
        ∙ ap (list_any (is_name_of names b)) (sym (take_more words n word (slice_get_within words n word here)));
  }

  pub named-all : (n : ℕ) (bookies : Set numbers) → length words ≤ n → AreNamedBelow n bookies → AreNamed names words bookies
  named-all n bookies end was = record {
    once = λ number b word within. was.once number b word (omega (arith, end, within));
    all = λ b. was.all b ∙ ap (list_any (is_name_of names b)) (take_all n words end);
  }

  pub named-twice : (n bookie : ℕ) (word : Bor (List ℕ)) (bookies : Set numbers) → slice_get words n ≡ Some word
      → bookie_named names word.now ≡ Some bookie → set.contains bookies bookie ≡ true
      → AreNamedBelow n bookies → IsNamedTwice names words n
  named-twice n bookie word bookies here named again was = record {
    once = was.once;
    twice =
        subst
        (λ (o : Option (Bor (List ℕ))).
        IsSomeAnd o
        (λ word. IsSomeAnd (bookie_named names word.now) (λ bookie. is_named_before names words n bookie ≡ true)))
        (sym here)
        (subst (λ (o : Option ℕ). IsSomeAnd o (λ bookie. is_named_before names words n bookie ≡ true)) (sym named)
        (sym (was.all bookie) ∙ again));
  }
