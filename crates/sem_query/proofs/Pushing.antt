-- The keys that a kernel may move, appended part by part.
use Rattle.std.proofs.Common.{◌≡◌, ℕ, Bool, true, false, List, [], ◌∷◌, ◌++◌, map, Option, Some, None, IsSome, arith, refl, sym, ap, ◌∙◌, subst, append_assoc}
use Rattle.std.proofs.Common.{append-nil}
use Rattle.std.specs.Prelude.{◌==◌, ◌&&◌, nat_lt, if◌then◌else◌}
use Rattle.std.specs.List.{filter}
use Rattle.std.specs.Option.{option_to_list}
use Rattle.std.proofs.lemmas.List.{map-append, get_or_past}
use Rattle.std.proofs.lemmas.List.Elements.{filter-append}
use Rattle.std.proofs.lemmas.Bool.{cond-true, cond-false}
use Rattle.sem_key.specs.declared.limits.TheConstants.{VPES}
use Rattle.sem_key.specs.KeyName.{KeyName}
use Rattle.sem_key.specs.Capability.{Capability}
use Rattle.sem_key.proofs.Members.{Contains-nil}
use Rattle.sem_msg.specs.declared.entry.Entry.{Entry}
use Rattle.sem_msg.specs.Setup.{Setup}
use Rattle.sem_msg.specs.Lookups.{owner_of}
use Rattle.sem_msg.specs.ParkedStates.{is_ready_with}
use Rattle.sem_machine.specs.Sides.{Side, no_side, cap, parked}
use Rattle.sem_machine.specs.Machine.{World, side}
use Rattle.sem_query.specs.Changes.{may_revoke}
use Rattle.sem_grants.specs.Ending.{ended_by}
use Rattle.sem_query.specs.Building.{brought_by, ready_key, ready_of, ready_among, ready_by, resumed_vpe, requested, revoked_by, moved_at, moved_by}
use Rattle.sem_query.specs.Reaching.{AreRevoked, held_of}
use Rattle.sem_query.proofs.Rooting.{reached-held}

-- those that calls were ready to install
abbrev pub ready_keys : Setup → ℕ → Side → Entry → List KeyName
ready_keys T i s e = ready_among T i s e.cut ++ ready_among T i s (requested e.event.act e.detail) ++ ready_by T i s (ended_by e.event.act e.detail)

-- Of a kernel that is not there no key is listed.

no-parked : (v : ℕ) → parked no_side v ≡ None
no-parked v = get_or_past [] v None (omega arith)

same : (b : Bool) → ◌≡◌ {A = List KeyName} (if b then [] else []) []
same true = refl
same false = refl

nothing-ready : (T : Setup) (i v : ℕ) → ready_of T i no_side v ≡ []
nothing-ready T i v =
    ap (λ p. if nat_lt v VPES then filter (λ (k : KeyName). (k.vpe == v) && (owner_of T k == i)) (option_to_list (ready_key p)) else []) (no-parked v)
    ∙ same (nat_lt v VPES)

nothing-by : (T : Setup) (i : ℕ) (o : Option ℕ) → ready_by T i no_side o ≡ []
nothing-by T i None = refl
nothing-by T i (Some v) = nothing-ready T i v

nothing-among : (T : Setup) (i : ℕ) (o : Option KeyName) → ready_among T i no_side o ≡ []
nothing-among T i None = refl
nothing-among T i (Some k) = ap (λ p. if is_ready_with k p && (owner_of T k == i) then k ∷ [] else []) (no-parked k.vpe)

nothing-revoked : (T : Setup) (i : ℕ) (e : Entry) → revoked_by T i no_side e [] ≡ []
nothing-revoked T i e = rw (nothing-among T i e.cut, nothing-among T i (requested e.event.act e.detail), nothing-by T i (ended_by e.event.act e.detail)) refl

pub nothing-moved : (T : Setup) (i : ℕ) (s : Side) (e : Entry) (keys : List KeyName) → s ≡ no_side → keys ≡ keys ++ moved_at T i s e []
nothing-moved T i s e keys none = sym (ap (λ ks. keys ++ ks) (ap (λ (t : Side). moved_at T i t e []) none ∙ nothing) ∙ append-nil keys)
  where
    both : (b : Bool) → (if b then revoked_by T i no_side e [] else []) ≡ []
    both true = nothing-revoked T i e
    both false = refl

    nothing : moved_at T i no_side e [] ≡ []
    nothing = ap (λ ks. ks ++ (if may_revoke e then revoked_by T i no_side e [] else [])) (nothing-by T i (resumed_vpe e.event.act)) ∙ both (may_revoke e)

-- nothing is reached where no kernel is
pub nothing-reached : (s : Side) (e : Entry) → s ≡ no_side → AreRevoked s.caps e []
nothing-reached s e none loud k = (λ among. absurd (Contains-nil k among), λ (a, root, reached). absurd (no (reached-held s.caps e a k reached)))
  where
    no : IsSome (cap s k) → ⊥
    no some = let empty : IsSome (cap no_side k) = subst (λ (t : Side). IsSome (cap t k)) none some in absurd cc

-- what is gathered is held by one VPE
pub held-joins : (v : ℕ) (cs ds : List Capability) → held_of (cs ++ ds) v ≡ held_of cs v ++ held_of ds v
held-joins v cs ds = ap (filter (λ k. k.vpe == v)) (map-append (λ (c : Capability). c.key) cs ds)
    ∙ filter-append (λ k. k.vpe == v) (map (λ (c : Capability). c.key) cs) (map (λ (c : Capability). c.key) ds)

module _ (T : Setup) (i : ℕ) (s : Side) (e : Entry) (reached old : List KeyName) where
  pub pushed-all : (a b c now : List KeyName) → a ≡ old ++ ready_among T i s e.cut → b ≡ a ++ ready_among T i s (requested e.event.act e.detail) →
      c ≡ b ++ ready_by T i s (ended_by e.event.act e.detail) → now ≡ c ++ reached → now ≡ old ++ revoked_by T i s e reached
  pushed-all a b c now one two three four = four
      ∙ (ap (λ ks. ks ++ reached) (three
      ∙ (ap (λ ks. ks ++ ready_by T i s (ended_by e.event.act e.detail)) (two ∙ ap (λ ks. ks ++ ready_among T i s (requested e.event.act e.detail)) one)
      ∙ (ap (λ ks. ks ++ ready_by T i s (ended_by e.event.act e.detail))
      (append_assoc old (ready_among T i s e.cut) (ready_among T i s (requested e.event.act e.detail)))
      ∙ append_assoc old (ready_among T i s e.cut ++ ready_among T i s (requested e.event.act e.detail)) (ready_by T i s (ended_by e.event.act e.detail)))))
      ∙ append_assoc old (ready_keys T i s e) reached)

  -- all that it may move there
  pub moved-loud : (a now : List KeyName) → may_revoke e ≡ true → a ≡ old ++ ready_by T i s (resumed_vpe e.event.act) → now ≡ a ++ revoked_by T i s e reached →
      now ≡ old ++ moved_at T i s e reached
  moved-loud a now loud one two = two
      ∙ (ap (λ ks. ks ++ revoked_by T i s e reached) one
      ∙ (append_assoc old (ready_by T i s (resumed_vpe e.event.act)) (revoked_by T i s e reached)
      ∙ ap (λ ks. old ++ (ready_by T i s (resumed_vpe e.event.act) ++ ks)) (sym (cond-true (may_revoke e) (revoked_by T i s e reached) [] loud))))

  pub moved-quiet : (now : List KeyName) → may_revoke e ≡ false → now ≡ old ++ ready_by T i s (resumed_vpe e.event.act) → now ≡ old ++ moved_at T i s e reached
  moved-quiet now quiet one = one
      ∙ (ap (λ ks. old ++ ks) (sym (append-nil (ready_by T i s (resumed_vpe e.event.act))))
      ∙ ap (λ ks. old ++ (ready_by T i s (resumed_vpe e.event.act) ++ ks)) (sym (cond-false (may_revoke e) (revoked_by T i s e reached) [] quiet)))

-- all that it may move, beside what it brings
pub moved-brought : (T : Setup) (W : World) (e : Entry) (reached a now : List KeyName) (o : Option KeyName) → o ≡ brought_by e.event.act e.detail →
    a ≡ option_to_list o → now ≡ a ++ moved_at T e.event.kernel (side W e.event.kernel) e reached → now ≡ moved_by T W e reached
moved-brought T W e reached a now o brought first rest =
    rest ∙ ap (λ ks. ks ++ moved_at T e.event.kernel (side W e.event.kernel) e reached) (first ∙ ap (λ (x : Option KeyName). option_to_list x) brought)
