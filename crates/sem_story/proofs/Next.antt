-- What has become of a key after an entry, over what is known of it before.
use Rattle.std.proofs.Common.{◌≡◌, ◌⊎◌, ℕ, Bool, true, false, Option, Some, None, IsSome, refl, inl, inr}
use Rattle.std.specs.Option.{option_map_or}
use Rattle.sem_key.specs.Capability.{Capability}
use Rattle.sem_query.specs.declared.holder.Holder.{Holder}
use Rattle.sem_query.specs.declared.holder.Holder.TheVariants.{Way, No}
use Rattle.sem_query.specs.Whereabouts.{held_with, held_as, unheld}
use Rattle.sem_story.specs.Stages.{stage_of}
use Rattle.sem_story.specs.Changes.{unseen_stage, seen_stage}

-- where a key is that is held so, or that something is to bring
abbrev pub place : Option Capability → Bool → Holder
place o coming = option_map_or held_as o (unheld coming)

-- What is known of an entry: how the key is held before and after it, whether a call is ready to install it,
-- and whether it is on its way; whether the entry grants it, brings it, or ends the call; and whether it may
-- change where the key is.
pub record Known (oW oV : Option Capability) (rW rV bW bV granted brought leaves : Bool) (May : Type 0) : Type 0 where
  pub moves : (place oW bW ≡ place oV bV) ⊎ May
  pub home : granted ≡ false → May → place oV bV ≡ place oV rV
  pub born : granted ≡ true → oV ≡ None → bV ≡ true
  pub waits : rW ≡ true → bW ≡ true
  pub by_message : brought ≡ true → May
  pub by_call : rW ≡ true → leaves ≡ true → May
  pub cause : granted ≡ false → May → (brought ≡ true) ⊎ ((rW ≡ true) × (leaves ≡ true)) ⊎ IsSome oW

-- what is held is neither on its way nor nowhere
held-apart : (m : Option ℕ) (s : ℕ) (b : Bool) → held_with m s ≡ unheld b → ⊥
held-apart None s true e = cc
held-apart None s false e = cc
held-apart (Some j) s true e = cc
held-apart (Some j) s false e = cc

way-apart : Way ≡ No → ⊥
way-apart e = cc

no-some : (o : Option Capability) → o ≡ None → IsSome o → ⊥
no-some None is h = cc
no-some (Some c) is h = cc

-- of a key of which its kernel tells nothing
unseen-next : (oW : Option Capability) (rW bW bV granted brought leaves : Bool) (May : Type 0) → Known oW None rW false bW bV granted brought leaves May →
    unseen_stage granted brought leaves (stage_of oW rW bW) ≡ stage_of None false bV
unseen-next oW rW bW true true brought leaves May K = refl
unseen-next oW rW bW false true brought leaves May K = let bad : false ≡ true = K.born refl refl in absurd cc
unseen-next (Some c) rW bW true false brought leaves May K = elim K.moves [
  | inl e ↦ absurd (held-apart c.mark c.selector true e)
  | inr m ↦ absurd (way-apart (K.home refl m))
]
unseen-next None true false bV false brought leaves May K = let bad : false ≡ true = K.waits refl in absurd cc
unseen-next None true true true false true leaves May K = absurd (way-apart (K.home refl (K.by_message refl)))
unseen-next None true true true false false true May K = absurd (way-apart (K.home refl (K.by_call refl refl)))
unseen-next None true true true false false false May K = refl
unseen-next None false true true false true leaves May K = absurd (way-apart (K.home refl (K.by_message refl)))
unseen-next None false true true false false leaves May K = refl
unseen-next None false false true false brought leaves May K = elim K.moves [
  | inl e ↦ let bad : No ≡ Way = e in absurd cc
  | inr m ↦ absurd (way-apart (K.home refl m))
]
unseen-next (Some c) rW bW false false brought leaves May K = refl
unseen-next None false false false false brought leaves May K = refl
unseen-next None true true false false true leaves May K = refl
unseen-next None true true false false false true May K = refl
unseen-next None true true false false false false May K = elim K.moves [
  | inl e ↦ absurd (way-apart e)
  | inr m ↦ elim (K.cause refl m) [
    | inl bad ↦ absurd cc
    | inr (inl bad) ↦ let no : false ≡ true = bad.1 in absurd cc
    | inr (inr bad) ↦ absurd (no-some None refl bad)
  ]
]
unseen-next None false true false false true leaves May K = refl
unseen-next None false true false false false leaves May K = elim K.moves [
  | inl e ↦ absurd (way-apart e)
  | inr m ↦ elim (K.cause refl m) [
    | inl bad ↦ absurd cc
    | inr (inl bad) ↦ let no : false ≡ true = bad.0 in absurd cc
    | inr (inr bad) ↦ absurd (no-some None refl bad)
  ]
]

-- of any key
pub stage-next : (oW oV : Option Capability) (rW rV bW bV granted brought leaves : Bool) (May : Type 0) → Known oW oV rW rV bW bV granted brought leaves May →
    seen_stage (unseen_stage granted brought leaves (stage_of oW rW bW)) (stage_of oV rV false) ≡ stage_of oV rV bV
stage-next oW (Some c) rW rV bW bV granted brought leaves May K = refl
stage-next oW None rW true bW bV granted brought leaves May K = refl
stage-next oW None rW false bW bV granted brought leaves May K = unseen-next oW rW bW bV granted brought leaves May K
