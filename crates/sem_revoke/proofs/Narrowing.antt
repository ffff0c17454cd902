-- What is granted grants no more than what it is granted from: the object of each kind of grant.
use Rattle.std.proofs.Common.{◌≡◌, ◌⊎◌, ℕ, zero, suc, ◌+◌, ◌%◌, ◌<◌, ◌≤◌, Bool, true, false, not, ◌&&◌, ◌||◌, nat_le, nat_lt, bit_and, refl, sym, subst, inl}
use Rattle.std.proofs.Common.{inr, arith, le-leb, ltb-false, eq-eqb}
use Rattle.std.specs.Prelude.{◌==◌}
use Rattle.std.proofs.lemmas.Bool.{cases_Bool, and_from, eqb-false, not-false}
use lib.Bits.{and_self}
use Rattle.sem_key.specs.KeyName.{KeyName, key_eq}
use Rattle.sem_key.specs.declared.key.Kind.TheVariants.{Serv as ServKind}
use Rattle.sem_key.specs.declared.object.Object.{Object}
use Rattle.sem_key.specs.declared.object.Object.TheVariants.{Mem, Recv, Send, Serv, Sess}
use Rattle.sem_key.specs.ObjectRanges.{IsValidObject, is_subset, range_within, narrows}
use Rattle.sem_key.specs.Capability.{Capability}
use Rattle.sem_msg.specs.declared.message.Target.{Target}
use Rattle.sem_msg.specs.declared.message.Target.TheVariants.{Sel as SelTarget, Serv as ServTarget, Offer as OfferTarget}
use Rattle.sem_machine.specs.Upcalls.{may_not_give, given}
use Rattle.sem_machine.specs.Calls.{is_of, stays_at_home, is_wider, exceeds_slots, narrowed}
use Rattle.sem_key.proofs.KeyTests.{key_eq-same}

or-right : (a b : Bool) → b ≡ true → (a || b) ≡ true
or-right true b pass = refl
or-right false b pass = pass

or-left : (a b : Bool) → a ≡ true → (a || b) ≡ true
or-left true b pass = refl
or-left false b pass = absurd cc

or-fails : (a b : Bool) → (a || b) ≡ false → (a ≡ false) × (b ≡ false)
or-fails true b fail = absurd cc
or-fails false b fail = (refl, fail)

-- what is given as it is
pub narrows-same : (parent : KeyName) (o : Object) → stays_at_home o ≡ false → narrows o parent o ≡ true
narrows-same parent (Mem base len rights) given =
    and_from (range_within base len base len) (is_subset rights rights)
    (or-right (len == 0) (nat_le base base && nat_le (base + len) (base + len))
    (and_from (nat_le base base) (nat_le (base + len) (base + len)) (le-leb base base (omega arith)) (le-leb (base + len) (base + len) (omega arith))))
    (eq-eqb (bit_and rights rights) rights (and_self rights))
narrows-same parent (Recv slots) given = eq-eqb slots slots refl
narrows-same parent (Send gate label credits) given =
    and_from (key_eq gate gate && (label == label)) (credits == credits)
    (and_from (key_eq gate gate) (label == label) (key_eq-same gate) (eq-eqb label label refl))
    (eq-eqb credits credits refl)
narrows-same parent (Serv name) given = absurd cc
narrows-same parent (Sess service ident) given = absurd cc

-- a part of a memory
pub narrows-derived : (parent : KeyName) (off len rights : ℕ) (o : Object) → is_wider off len rights o ≡ false → IsValidObject o →
    narrows (narrowed off len rights o) parent o ≡ true
narrows-derived parent off len rights (Mem base size among) wider valid =
    let fits = or-fails (nat_lt size (off + len)) (not (is_subset rights among)) wider in
    and_from (range_within ((base + off) % 4294967296) len base size) (is_subset rights among)
    (range (ltb-false size (off + len) fits.0))
    (not-false (is_subset rights among) fits.1)
  where
    range : off + len ≤ size → range_within ((base + off) % 4294967296) len base size ≡ true
    range within = elim (cases_Bool (len == 0)) [
      | inl empty ↦ or-left (len == 0) (nat_le base ((base + off) % 4294967296) && nat_le ((base + off) % 4294967296 + len) (base + size)) empty
      | inr some ↦
          let most : base + size ≤ 4294967296 = valid.3 in
          let more : len ≡ 0 → ⊥ = eqb-false len 0 some in
          let below : base + off < 4294967296 = elim (zero-or len) [ inl none ↦ absurd (more none) | inr one ↦ omega (arith, within, most, one) ] in
          let same : (base + off) % 4294967296 ≡ base + off = omega (arith, below) in
          or-right (len == 0) (nat_le base ((base + off) % 4294967296) && nat_le ((base + off) % 4294967296 + len) (base + size))
          (and_from (nat_le base ((base + off) % 4294967296)) (nat_le ((base + off) % 4294967296 + len) (base + size))
          (le-leb base ((base + off) % 4294967296) (omega (arith, same)))
          (le-leb ((base + off) % 4294967296 + len) (base + size) (omega (arith, same, within))))
    ]
      where
        zero-or : (n : ℕ) → (n ≡ 0) ⊎ (1 ≤ n)
        zero-or zero = inl refl
        zero-or (suc n) = inr (omega arith)
narrows-derived parent off len rights (Recv slots) wider valid = absurd cc
narrows-derived parent off len rights (Send gate label credits) wider valid = absurd cc
narrows-derived parent off len rights (Serv name) wider valid = absurd cc
narrows-derived parent off len rights (Sess service ident) wider valid = absurd cc

-- a send gate of a receive gate
pub narrows-gate : (parent : KeyName) (label credits : ℕ) (o : Object) → exceeds_slots credits o ≡ false → narrows (Send parent label credits) parent o ≡ true
narrows-gate parent label credits (Recv slots) wider = and_from (key_eq parent parent) (nat_le credits slots) (key_eq-same parent)
    (le-leb credits slots (ltb-false slots credits wider))
narrows-gate parent label credits (Mem base len rights) wider = absurd cc
narrows-gate parent label credits (Send gate label' credits') wider = absurd cc
narrows-gate parent label credits (Serv name) wider = absurd cc
narrows-gate parent label credits (Sess service ident) wider = absurd cc

-- a session of a service
pub narrows-session : (service : KeyName) (ident : ℕ) (o : Object) → is_of ServKind o ≡ true → narrows (Sess service ident) service o ≡ true
narrows-session service ident (Serv name) is = key_eq-same service
narrows-session service ident (Mem base len rights) is = absurd cc
narrows-session service ident (Recv slots) is = absurd cc
narrows-session service ident (Send gate label credits) is = absurd cc
narrows-session service ident (Sess service' ident') is = absurd cc

-- what an obtain gives: a session of the service that is asked, else the object of the source
pub narrows-given : (target : Target) (asker : ℕ) (c : Capability) →
    ((service : KeyName) → target ≡ ServTarget service → (c.key ≡ service) × (is_of ServKind c.object ≡ true)) → may_not_give target c.object ≡ false →
    narrows (given target asker c) c.key c.object ≡ true
narrows-given (SelTarget vpe sel) asker c services passed = narrows-same c.key c.object passed
narrows-given (ServTarget service) asker c services passed =
    let is = services service refl in
    subst (λ k. narrows (Sess service asker) k c.object ≡ true) (sym is.0) (narrows-session service asker c.object is.1)
narrows-given (OfferTarget service index) asker c services passed = narrows-same c.key c.object passed
