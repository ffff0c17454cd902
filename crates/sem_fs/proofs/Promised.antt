-- What is held, promised and called, on a sound side and on lists.
use Rattle.std.proofs.Common.{◌≡◌, ℕ, suc, ◌+◌, ◌≤◌, ◌++◌, Bool, true, false, List, [], ◌∷◌, fold, get_or, nat_lt, take, slice_get, Some, refl, ap, ◌∙◌, arith}
use Rattle.std.proofs.Common.{eq-eqb}
use Rattle.std.specs.Prelude.{◌==◌, ◌&&◌}
use Rattle.std.specs.List.{Contains}
use Rattle.std.proofs.lemmas.Bool.{ltb-true, false_from_ne_true}
use Rattle.std.proofs.Math.Seq.{take-suc}
use Rattle.std.proofs.lemmas.Option.{slice_get_within, get_or_from_slice_get}
use Rattle.sem_key.specs.KeyName.{KeyName}
use Rattle.sem_key.specs.Capability.{Capability}
use Rattle.sem_msg.specs.declared.call.Call.{Call}
use Rattle.sem_msg.specs.declared.state.Parked.TheVariants.{ObtainReady}
use Rattle.sem_msg.specs.declared.state.Pending.{Pending}
use Rattle.sem_msg.specs.declared.state.Slot.TheVariants.{Held}
use Rattle.sem_msg.specs.Setup.{Setup}
use Rattle.sem_machine.specs.Sides.{Side, row, slot, cap, parked}
use Rattle.sem_machine.specs.Sound.{IsSound, kept, keeps_number, keeps_selector, is_promised, bit}
use Rattle.sem_machine.proofs.Weighing.{weigh-among}
use Rattle.sem_fs.specs.Service.{holds, holds_after}
use Rattle.sem_fs.proofs.Staying.{ComesNew}

-- what is held comes from nowhere else: its number is in use once
pub comes-new : (T : Setup) (i : ℕ) (s : Side) → IsSound T i s → (v : ℕ) (k : KeyName) (c : Capability) → cap s k ≡ Some c → Contains s.caps c → c.key ≡ k
    → ComesNew T s v k ⊥
comes-new T i s sound v k c held among same = record {
  ready = λ u parent object q at.
      let own' : k.vpe ≡ u = (sound.calls u (ObtainReady k parent object q) at).1.0 in
      twice (ap (λ w. kept (parked s w)) own' ∙ ap kept at) (eq-eqb k.number k.number refl);
  waits = λ number q at numbered. twice (ap kept at) (eq-eqb number k.number numbered);
  pends = λ p pending here.
      let most = sound.numbers k.vpe k.number in
      let one = weigh-among (λ (x : Pending). bit ((x.key.vpe == k.vpe) && (x.key.number == k.number))) s.pendings p pending in
      let is : bit ((p.key.vpe == k.vpe) && (p.key.number == k.number)) ≡ 1 = ap (λ (x : KeyName). bit ((x.vpe == k.vpe) && (x.number == k.number))) here
      ∙ itself in
      let two = weigh-among (λ (x : Capability). bit ((x.key.vpe == k.vpe) && (x.key.number == k.number))) s.caps c among in
      let few = at-most (nat_lt k.number (row s k.vpe).next_number) in
      omega (arith, most, one, is, two, mine, few);
  next = λ here.
      let most = sound.numbers k.vpe k.number in
      let two = weigh-among (λ (x : Capability). bit ((x.key.vpe == k.vpe) && (x.key.number == k.number))) s.caps c among in
      let none : bit (nat_lt k.number (row s k.vpe).next_number) ≡ 0 = ap bit (ap (nat_lt k.number) here ∙ irreflexive k.number) in
      omega (arith, most, two, mine, none);
}
  where
    at-most : (b : Bool) → bit b ≤ 1
    at-most true = omega arith
    at-most false = omega arith

    irreflexive : (n : ℕ) → nat_lt n n ≡ false
    irreflexive n = false_from_ne_true (nat_lt n n) (λ less. let lt = ltb-true n n less in omega (arith, lt))

    itself : bit ((k.vpe == k.vpe) && (k.number == k.number)) ≡ 1
    itself = ap (λ b. bit (b && (k.number == k.number))) (eq-eqb k.vpe k.vpe refl) ∙ ap bit (eq-eqb k.number k.number refl)

    mine : bit ((c.key.vpe == k.vpe) && (c.key.number == k.number)) ≡ 1
    mine = ap (λ (x : KeyName). bit ((x.vpe == k.vpe) && (x.number == k.number))) same ∙ itself

    twice : {n q : ℕ} → kept (parked s k.vpe) ≡ Some (n, q) → (n == k.number) ≡ true → ⊥
    twice {n} {q} is equal =
        let most = sound.numbers k.vpe k.number in
        let one : keeps_number k.number (kept (parked s k.vpe)) ≡ 1 = ap (keeps_number k.number) is ∙ ap bit equal in
        let two = weigh-among (λ (x : Capability). bit ((x.key.vpe == k.vpe) && (x.key.number == k.number))) s.caps c among in
        let few = at-most (nat_lt k.number (row s k.vpe).next_number) in
        omega (arith, most, one, two, mine, few)

-- what is waited for is promised
pub awaits-promised : (T : Setup) (i : ℕ) (s : Side) → IsSound T i s → (v sel number : ℕ) → kept (parked s v) ≡ Some (number, sel) → (k : KeyName)
    → slot s v sel ≡ Held k → ⊥
awaits-promised T i s sound v sel number is k at =
    let most = sound.promises v sel in
    let one : keeps_selector sel (kept (parked s v)) ≡ 1 = ap (keeps_selector sel) is ∙ ap bit (eq-eqb sel sel refl) in
    let none : is_promised (slot s v sel) ≡ 0 = ap is_promised at in
    omega (arith, most, one, none)

-- calls in a row
pub holds-more : (before : List Call) (c : Call) (sel : ℕ) → holds (before ++ c ∷ []) sel ≡ holds_after sel (holds before sel) c
holds-more before c sel = from before false
  where
    from : (xs : List Call) (b : Bool) → fold (holds_after sel) b (xs ++ c ∷ []) ≡ holds_after sel (fold (holds_after sel) b xs) c
    from [] b = refl
    from (x ∷ xs) b = from xs (holds_after sel b x)

pub take-more : (xs : List Call) (n : ℕ) (c : Call) → slice_get xs n ≡ Some c → take (n + 1) xs ≡ take n xs ++ c ∷ []
take-more xs n c at =
    let less = slice_get_within xs n c at in
    let next : n + 1 ≡ suc n = omega arith in
    let same : get_or xs n c ≡ c = get_or_from_slice_get xs n c c at in
    ap (λ m. take m xs) next ∙ (take-suc xs n c less ∙ ap (λ x. take n xs ++ x ∷ []) same)
