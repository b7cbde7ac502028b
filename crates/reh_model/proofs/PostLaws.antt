-- Posts: the copy that an accepted one stands for is accepted too.
use Rattle.std.proofs.Common.{◌≡◌, ℕ, Bool, true, false, not, cond, ◌&&◌, ◌||◌, List, [], ◌∷◌, map, length, Option, None, Some, inl, inr, refl, sym, ap, ◌∙◌, arith, nat_eq, nat_lt}
use Rattle.std.specs.Prelude.{◌==◌, is_none, slice_get}
use Rattle.std.specs.List.{find, list_any, zip}
use Rattle.std.specs.Option.{option_map, option_map_or, option_eq}
use Rattle.std.specs.Str.{bytes_eq}
use Rattle.std.proofs.Math.Bool.{or-true}
use Rattle.std.proofs.lemmas.Bool.Decides.{nat_tests}
use Rattle.reh_types.specs.declared.contents.Content.{Content}
use Rattle.reh_types.specs.declared.moves.Move.TheVariants.{Do, Post}
use Rattle.reh_types.specs.declared.moves.Reply.{Reply}
use Rattle.reh_types.specs.declared.moves.Reply.TheVariants.{Done, Clock, Issued, Discarded, Refused}
use Rattle.reh_types.specs.declared.refusals.Refusal.{Refusal}
use Rattle.reh_types.specs.declared.refusals.Refusal.TheVariants.{NoIndex, NoEndpoint, NoSource, Stale}
use Rattle.reh_model.specs.Metadata.{Metadata, Fragment, stop_of, stripe_of, writes}
use Rattle.reh_model.specs.Cluster.{Cluster, Ledger, is_readable, is_source}
use Rattle.reh_model.specs.Checks.{first_reason, reason_if}
use Rattle.reh_model.specs.Refusals.{with_ledger, at_ledger, with_fragment, at_fragment, no_bookie, not_owner, stale_version, no_index, member_up, target_down, target_is_member, no_endpoint, no_place, no_source}
use Rattle.reh_model.specs.Scan.{is_fragment_as_seen, is_as_seen, not_as_seen, lost_source, lost_sources, source_checks, post_checks, post_refusal, copy_of}
use Rattle.reh_model.specs.Step.{refusal_of, copy_checks}
use Rattle.reh_model.specs.Session.{Session, state_of, reply_unless, no_room, reply_to, session_after, Performs}
use Rattle.reh_model.proofs.CheckLaws.{reason_if-none, check-none, both-none}
use Rattle.reh_model.proofs.AcceptedLaws.{with_fragment-none, not_not, accepted_ledger}

-- Sources

both_true : (a b : Bool) → (a && b) ≡ true → (a ≡ true) × (b ≡ true)
both_true true b is = (refl, is)
both_true false b is = cc

-- a member that passes a test shows that some member does
any_member : (p : ℕ → Bool) (b : ℕ) (members : List ℕ) → list_any (λ member. member == b) members ≡ true → p b ≡ true → list_any p members ≡ true
any_member p b [] any passes = cc
any_member p b (x ∷ xs) any passes =
    elim (x == b) as (λ same. (x == b) ≡ same → (same || list_any (λ member. member == b) xs) ≡ true → (p x || list_any p xs) ≡ true) [
      | true ↦ λ is _. let here : x ≡ b = grind (arith, nat_tests, is) in ap (λ a. a || list_any p xs) (ap p here ∙ passes)
      | false ↦ λ _ later. ap (λ a. p x || a) (any_member p b xs later passes) ∙ or-true (p x)
    ] refl any

-- an entry whose source is not lost can be read
lost_source-none : (s : Cluster) (g : Ledger) (fragment : Fragment) (entry : ℕ) (source : Option ℕ) → lost_source s g fragment (entry, source) ≡ None → is_readable s g fragment entry ≡ true
lost_source-none s g fragment entry None none = cc
lost_source-none s g fragment entry (Some b) none =
    let is = both_true (list_any (λ member. member == b) (writes g.metadata fragment entry)) (is_source s g.id entry b) (not_not _ (reason_if-none _ _ none)) in
    any_member (is_source s g.id entry) b (writes g.metadata fragment entry) is.0 is.1

-- where none is lost, each entry can be read
lost_sources-none : (s : Cluster) (g : Ledger) (fragment : Fragment) (entries : List ℕ) (sources : List (Option ℕ)) → length sources ≡ length entries
    → first_reason (map (lost_source s g fragment) (zip entries sources)) ≡ None → find (λ e. not (is_readable s g fragment e)) entries ≡ None
lost_sources-none s g fragment [] sources long none = refl
lost_sources-none s g fragment (entry ∷ entries) [] long none = absurd (omega (arith, long))
lost_sources-none s g fragment (entry ∷ entries) (source ∷ sources) long none =
    let both = both-none (lost_source s g fragment (entry, source)) (first_reason (map (lost_source s g fragment) (zip entries sources))) none in
    ap (λ b. cond (not b) (Some entry) (find (λ e. not (is_readable s g fragment e)) entries)) (lost_source-none s g fragment entry source both.0)
    ∙ lost_sources-none s g fragment entries sources (omega (arith, long)) both.1

-- What an accepted post shows

-- a ledger's fragment is as a content saw it
record IsFragmentAsSeen (m : Metadata) (content : Content) (fragment : Fragment) : Type 0 where
  stop : is_none (stop_of m content.aim.fragment) ≡ false
  index : nat_lt content.aim.index m.size ≡ true
  sources : length content.sources ≡ length (stripe_of m content.aim.fragment content.aim.index)

stop_seen : (o : Option ℕ) (stop : ℕ) → option_eq nat_eq o (Some stop) ≡ true → is_none o ≡ false
stop_seen None stop is = cc
stop_seen (Some other) stop is = refl

fragment_as_seen : (m : Metadata) (content : Content) (fragment : Fragment) → is_fragment_as_seen m content fragment ≡ true → IsFragmentAsSeen m content fragment
fragment_as_seen m content fragment is =
    let entries : List ℕ = stripe_of m content.aim.fragment content.aim.index in
    let many : Bool = length content.sources == length entries in
    let within : Bool = nat_lt content.aim.index m.size in
    let same : Bool = bytes_eq fragment.ensemble content.ensemble in
    let ends : Bool = option_eq nat_eq (stop_of m content.aim.fragment) (Some content.stop) in
    let begins : Bool = fragment.first == content.first in
    let whole = both_true (begins && ends && same && within) many is in
    let inside = both_true (begins && ends && same) within whole.0 in
    let alike = both_true (begins && ends) same inside.0 in
    let ended = both_true begins ends alike.0 in
    record {
      stop = stop_seen (stop_of m content.aim.fragment) content.stop ended.1;
      index = inside.1;
      sources = grind (arith, nat_tests, whole.1);
    }

-- a content that is accepted is as the ledger is, and no source of it is lost
record IsAsSeen (s : Cluster) (content : Content) (g : Ledger) : Type 0 where
  version : (g.metadata.version == content.version) ≡ true
  fragment : Fragment
  is : slice_get g.metadata.fragments content.aim.fragment ≡ Some fragment
  seen : IsFragmentAsSeen g.metadata content fragment
  passes : first_reason (source_checks s content g fragment) ≡ None

as_seen : (s : Cluster) (content : Content) (g : Ledger) → first_reason (post_checks s content g) ≡ None → IsAsSeen s content g
as_seen s content g none =
    let m : Metadata = g.metadata in
    let f : ℕ = content.aim.fragment in
    let sources : Option Refusal = at_fragment g f (source_checks s content g) in
    let seen : is_as_seen m content ≡ true = not_not _ (reason_if-none _ _ (check-none (not_owner content.aim.worker g ∷ []) (not_as_seen g content) (sources ∷ []) none)) in
    let both = both_true (m.version == content.version) (option_map_or (is_fragment_as_seen m content) (slice_get m.fragments f) false) seen in
    let found = with_fragment-none (slice_get m.fragments f) (source_checks s content g) (check-none (not_owner content.aim.worker g ∷ not_as_seen g content ∷ []) sources [] none) in
    record {
      version = both.0;
      fragment = found.fragment;
      is = found.is;
      seen = fragment_as_seen m content found.fragment (sym (ap (λ (o : Option Fragment). option_map_or (is_fragment_as_seen m content) o false) found.is) ∙ both.1);
      passes = found.passes;
    }

-- Copies

-- the worker's bookie can take the place
no_place-seen : (s : Cluster) (content : Content) (g : Ledger) → IsAsSeen s content g → no_place s content.aim.worker g content.aim.fragment content.aim.index ≡ None
no_place-seen s content g as_seen =
    let w : ℕ = content.aim.worker in
    let f : ℕ = content.aim.fragment in
    let i : ℕ = content.aim.index in
    let fragment : Fragment = as_seen.fragment in
    let lost : Option Refusal = lost_sources s content g fragment in
    let member : member_up s fragment i ≡ None = check-none [] (member_up s fragment i) (target_down s w ∷ target_is_member fragment w ∷ lost ∷ []) as_seen.passes in
    let up : target_down s w ≡ None = check-none (member_up s fragment i ∷ []) (target_down s w) (target_is_member fragment w ∷ lost ∷ []) as_seen.passes in
    let new : target_is_member fragment w ≡ None = check-none (member_up s fragment i ∷ target_down s w ∷ []) (target_is_member fragment w) (lost ∷ []) as_seen.passes in
    let index : no_index g i ≡ None = ap (λ b. reason_if (not b) NoIndex) as_seen.seen.index in
    let stop : no_endpoint g f ≡ None = ap (λ b. reason_if b NoEndpoint) as_seen.seen.stop in
    ap (λ (o : Option Fragment). with_fragment o (λ fragment. no_index g i ∷ member_up s fragment i ∷ target_down s w ∷ target_is_member fragment w ∷ no_endpoint g f ∷ [])) as_seen.is
    ∙ (λ j. first_reason (index j ∷ member j ∷ up j ∷ new j ∷ stop j ∷ []))

-- each entry can be read
no_source-seen : (s : Cluster) (content : Content) (g : Ledger) → IsAsSeen s content g → no_source s g content.aim.fragment content.aim.index ≡ None
no_source-seen s content g as_seen =
    let w : ℕ = content.aim.worker in
    let f : ℕ = content.aim.fragment in
    let i : ℕ = content.aim.index in
    let fragment : Fragment = as_seen.fragment in
    let entries : List ℕ = stripe_of g.metadata f i in
    let lost : lost_sources s content g fragment ≡ None = check-none (member_up s fragment i ∷ target_down s w ∷ target_is_member fragment w ∷ []) (lost_sources s content g fragment) [] as_seen.passes in
    let none : find (λ e. not (is_readable s g fragment e)) entries ≡ None = lost_sources-none s g fragment entries content.sources as_seen.seen.sources lost in
    ap (λ (o : Option Fragment). with_fragment o (λ fragment. option_map (λ e. NoSource e) (find (λ e. not (is_readable s g fragment e)) (stripe_of g.metadata f i)) ∷ [])) as_seen.is
    ∙ ap (λ (o : Option ℕ). first_reason (option_map (λ e. NoSource e) o ∷ [])) none

-- the copy to the content's aim at its version
pub accepted_post : (s : Cluster) (content : Content) → post_refusal s content ≡ None → refusal_of s (copy_of content) ≡ None
accepted_post s content none =
    let w : ℕ = content.aim.worker in
    let l : ℕ = content.aim.ledger in
    let f : ℕ = content.aim.fragment in
    let i : ℕ = content.aim.index in
    let found = accepted_ledger s w l (post_checks s content) none in
    let g : Ledger = found.ledger in
    let seen : IsAsSeen s content g = as_seen s content g found.passes in
    let named : no_bookie s w ≡ None = check-none [] (no_bookie s w) (at_ledger s l (post_checks s content) ∷ []) none in
    let owner : not_owner w g ≡ None = check-none [] (not_owner w g) (not_as_seen g content ∷ at_fragment g f (source_checks s content g) ∷ []) found.passes in
    let version : stale_version g content.version ≡ None = ap (λ b. reason_if (not b) (Stale g.metadata.version)) seen.version in
    let place : no_place s w g f i ≡ None = no_place-seen s content g seen in
    let source : no_source s g f i ≡ None = no_source-seen s content g seen in
    (λ j. first_reason (named j ∷ with_ledger (found.is j) (copy_checks s w f i content.version) ∷ []))
    ∙ (λ j. first_reason (first_reason (owner j ∷ version j ∷ place j ∷ source j ∷ []) ∷ []))

-- Sessions

-- the copy of a post that is done is accepted
pub posted_accepted : (m : Session) (content : Content) → reply_to m (Post content) ≡ Done → refusal_of (state_of m) (copy_of content) ≡ None
posted_accepted m content done = accepted_post (state_of m) content (none (post_refusal (state_of m) content) done) where
  none : (o : Option Refusal) → reply_unless (first_reason (o ∷ no_room m ∷ [])) ≡ Done → o ≡ None
  none None is = refl
  none (Some refusal) is = cc

-- a post that is refused is answered so
pub posted_first : (m : Session) (content : Content) (refusal : Refusal) → post_refusal (state_of m) content ≡ Some refusal → reply_to m (Post content) ≡ Refused refusal
posted_first m content refusal is = ap (λ (o : Option Refusal). reply_unless (first_reason (o ∷ no_room m ∷ []))) is

-- one that is not is answered as its copy, and leaves what that leaves
pub Performs-post : (m n : Session) (content : Content) (reply : Reply) → post_refusal (state_of m) content ≡ None → Performs m (Do (copy_of content)) reply n → Performs m (Post content) reply n
Performs-post m n content reply none = performs where
  same_reply : reply_to m (Do (copy_of content)) ≡ reply_to m (Post content)
  same_reply = ap (λ (o : Option Refusal). reply_unless (first_reason (o ∷ no_room m ∷ []))) (accepted_post (state_of m) content none ∙ sym none)

  same_session : (reply : Reply) → session_after m (Do (copy_of content)) reply ≡ session_after m (Post content) reply
  same_session Done = refl
  same_session (Clock clock) = refl
  same_session (Issued number) = refl
  same_session Discarded = refl
  same_session (Refused refusal) = refl

  performs : Performs m (Do (copy_of content)) reply n → Performs m (Post content) reply n
  performs (inl answered) = inl (answered.0 ∙ same_reply, answered.1 ∙ same_session reply)
  performs (inr wanted) = inr (refl, wanted.1, sym same_reply ∙ wanted.2, wanted.3)
