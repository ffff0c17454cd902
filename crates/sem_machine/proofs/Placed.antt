-- Which VPEs have a kernel, and how many outboxes there are.
use Rattle.std.proofs.Common.{◌≡◌, ℕ, ◌<◌, false, not, List, [], length, Option, Some, None, refl, sym, ◌∙◌, ap, inl, inr, eq-eqb, arith}
use Rattle.std.specs.Prelude.{◌==◌}
use Rattle.std.specs.Option.{option_map_or}
use Rattle.sem_key.proofs.Puts.{length-put}
use Rattle.sem_msg.specs.declared.message.Message.{Message}
use Rattle.sem_msg.specs.declared.setup.VpeDecl.{VpeDecl}
use Rattle.sem_msg.specs.Setup.{Setup, IsSetup}
use Rattle.sem_msg.specs.Lookups.{decl, is_declared, kernel_of, pe_owner}
use Rattle.sem_msg.specs.Outboxes.{OutboxList, HasBoxes, with_box}
use Rattle.sem_msg.proofs.Declared.{declared-below}
use Rattle.std.proofs.lemmas.Bool.{cases_Bool, ne_eqb, true≢false}
use Rattle.sem_key.proofs.Members.{found, list_any-at}

-- a VPE that is not declared has no kernel
pub undeclared-none : (T : Setup) (v : ℕ) → is_declared T v ≡ false → kernel_of T v ≡ T.kernels
undeclared-none T v undeclared = from (decl T v) refl
  where
    from : (o : Option VpeDecl) → decl T v ≡ o → option_map_or (λ d. pe_owner T d.pe) o T.kernels ≡ T.kernels
    from None none = refl
    from (Some d) there =
        let at = found (λ (x : VpeDecl). x.vpe == v) T.vpes d there in
        absurd (true≢false (sym (list_any-at (λ (x : VpeDecl). x.vpe == v) T.vpes d at.0 at.1) ∙ undeclared))

-- a VPE is declared where it has one
pub declared-where : (T : Setup) → IsSetup T → (v : ℕ) → not (is_declared T v) ≡ (kernel_of T v == T.kernels)
declared-where T valid v = elim (cases_Bool (is_declared T v)) [
  | inl yes' ↦ ap not yes' ∙ sym (ne_eqb (kernel_of T v) T.kernels (λ same. let below = declared-below T valid v yes' in omega (arith, below, same)))
  | inr no' ↦ ap not no' ∙ sym (eq-eqb (kernel_of T v) T.kernels (undeclared-none T v no'))
]

-- a message more leaves as many outboxes
pub boxes-sent : (T : Setup) (outs new : OutboxList) (to : ℕ) (messages : List Message) → to < length outs.boxes → new.boxes ≡ with_box outs.boxes to messages →
    HasBoxes T outs → HasBoxes T new
boxes-sent T outs new to messages within sent has = ap length sent ∙ length-put [] outs.boxes to messages within ∙ has
