-- What is decided on an offer of which it is known where its VPE is.
use Rattle.std.proofs.Common.{◌≡◌, ◌≢◌, ◌++◌, ℕ, true, false, Option, Some, None, refl, sym, ap, ◌∙◌, eq-eqb}
use Rattle.std.specs.Option.{option_map_or}
use Rattle.std.proofs.lemmas.Bool.{ne_eqb}
use Rattle.sem_key.specs.declared.object.Object.{Object}
use Rattle.sem_key.specs.KeyName.{KeyName}
use Rattle.sem_msg.specs.declared.code.Code.{Code}
use Rattle.sem_msg.specs.declared.entry.Consent.TheVariants.{Yes}
use Rattle.sem_msg.specs.declared.message.Message.TheVariants.{DelegateNo}
use Rattle.sem_msg.specs.declared.state.Ask.TheVariants.{Delegate as DelegateAsk}
use Rattle.sem_msg.specs.Codes.{code_number}
use Rattle.sem_msg.specs.Lookups.{denies, kernel_of, owner_of}
use Rattle.sem_msg.specs.Setup.{Setup}
use Rattle.sem_machine.specs.Asks.{call_refused, is_delegate_wait}
use Rattle.sem_machine.specs.Sides.{Side, cap, parked, send}
use Rattle.sem_machine.specs.Steps.{Step, asking, first_code, unshown}
use Rattle.sem_machine.specs.Calls.{destination_tests}
use Rattle.sem_machine.specs.Upcalls.{ask_decided, delegate_here, delegate_prepared, parent_tests}
use Rattle.sem_machine.proofs.FirstCodes.{unless-first}

module _ (T : Setup) (i v : ℕ) (parent : KeyName) (object : Object) (sel : ℕ) (s : Side) where
  -- of a VPE of the same kernel, which waits
  abbrev code_here : Option Code
  code_here = first_code (parent_tests (cap s parent) ++ destination_tests s v sel)

  abbrev said_here : Option Code → Step
  said_here o = asking parent.vpe Yes (option_map_or (λ code. unshown (call_refused (code_number code) parent.vpe s)) o (delegate_here T v parent object sel s))

  decided-here : kernel_of T parent.vpe ≡ i → is_delegate_wait parent (parked s parent.vpe) ≡ true → denies T v parent.vpe ≡ false →
      ask_decided T i v (DelegateAsk parent object sel) s ≡ said_here code_here
  decided-here here waits consents = rw (
    eq-eqb (kernel_of T parent.vpe) i here,
    waits,
    consents,
    unless-first (parent_tests (cap s parent) ++ destination_tests s v sel),
  ) refl

  pub refused-here : (code : Code) → kernel_of T parent.vpe ≡ i → is_delegate_wait parent (parked s parent.vpe) ≡ true → denies T v parent.vpe ≡ false →
      Some code ≡ code_here
      → ask_decided T i v (DelegateAsk parent object sel) s ≡ asking parent.vpe Yes (unshown (call_refused (code_number code) parent.vpe s))
  refused-here code here waits consents first = decided-here here waits consents ∙ ap said_here (sym first)

  pub taken-here : kernel_of T parent.vpe ≡ i → is_delegate_wait parent (parked s parent.vpe) ≡ true → denies T v parent.vpe ≡ false → None ≡ code_here
      → ask_decided T i v (DelegateAsk parent object sel) s ≡ asking parent.vpe Yes (delegate_here T v parent object sel s)
  taken-here here waits consents first = decided-here here waits consents ∙ ap said_here (sym first)

  -- of a VPE of another kernel
  abbrev said_elsewhere : Option Code → Step
  said_elsewhere o =
      asking parent.vpe Yes (option_map_or (λ code. unshown (send (owner_of T parent) (DelegateNo parent (code_number code)) s)) o
      (delegate_prepared T v parent object sel s))

  decided-elsewhere : kernel_of T parent.vpe ≢ i → denies T v parent.vpe ≡ false →
      ask_decided T i v (DelegateAsk parent object sel) s ≡ said_elsewhere (first_code (destination_tests s v sel))
  decided-elsewhere other consents = rw (ne_eqb (kernel_of T parent.vpe) i other, consents, unless-first (destination_tests s v sel)) refl

  pub refused-elsewhere : (code : Code) → kernel_of T parent.vpe ≢ i → denies T v parent.vpe ≡ false → Some code ≡ first_code (destination_tests s v sel)
      → ask_decided T i v (DelegateAsk parent object sel) s ≡ asking parent.vpe Yes (unshown (send (owner_of T parent) (DelegateNo parent (code_number code)) s))
  refused-elsewhere code other consents first = decided-elsewhere other consents ∙ ap said_elsewhere (sym first)

  pub prepared-elsewhere : kernel_of T parent.vpe ≢ i → denies T v parent.vpe ≡ false → None ≡ first_code (destination_tests s v sel)
      → ask_decided T i v (DelegateAsk parent object sel) s ≡ asking parent.vpe Yes (delegate_prepared T v parent object sel s)
  prepared-elsewhere other consents first = decided-elsewhere other consents ∙ ap said_elsewhere (sym first)
