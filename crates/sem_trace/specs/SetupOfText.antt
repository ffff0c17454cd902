-- The setup that lines declare, and the setup that a text stands for ("The trace" in
-- docs/texts.md).
use Rattle.std.specs.Prelude.{◌≡◌, ℕ, ◌==◌, List, map, filter_map, flat_map, find, Option, Some, None, option_map}
use Rattle.std.specs.Prelude.{if◌then◌else◌}
use Rattle.std.specs.Option.{option_map_or}
use Rattle.sem_msg.specs.Prelude.{PES, VPES, Setup}
use Rattle.sem_msg.specs.declared.setup.Service.{Service}
use Rattle.sem_msg.specs.declared.setup.Offer.{Offer}
use Rattle.sem_msg.specs.declared.setup.VpeDecl.{VpeDecl}
use Rattle.sem_msg.specs.Setup.{services_from}
use Rattle.sem_trace.specs.declared.limits.TheConstants.{LINK_WINDOW}
use Rattle.sem_trace.specs.declared.declaration.Declaration.{Declaration}
use Rattle.sem_trace.specs.declared.fault.TraceFault.{TraceFault}
use Rattle.sem_trace.specs.declared.fault.TraceError.{TraceError}
use Rattle.sem_trace.specs.declared.fault.TraceError.TheVariants.{Refused, Memory}
use Rattle.sem_trace.specs.TextLines.{lines_of}
use Rattle.sem_trace.specs.Earlier.{window_in, owner_in, vpe_in, offer_in, is_denied, kill_in}
use Rattle.sem_trace.specs.Refusal.{numbers, version_of, kernels_of, declarations_of, lines_refusal, refusal}

-- the declared VPEs, by number
unfoldable pub vpes_of : List Declaration → List VpeDecl
vpes_of ds = filter_map (vpe_in ds) (numbers VPES)

-- the services among the roots, VPE by VPE
abbrev pub services_among : List VpeDecl → List Service
services_among vpes = flat_map (λ d. services_from d 0 d.roots) vpes

-- the service of that name, if it is declared
abbrev pub named : List Service → ℕ → Option Service
named services name = find (λ s. s.name == name) services

-- the services by name
unfoldable pub services_of : List VpeDecl → List Service
services_of vpes = filter_map (named (services_among vpes)) (numbers 256)

-- the offer under an index, if there is one
abbrev pub offer_of : List Declaration → ℕ → ℕ → Option Offer
offer_of ds name index = option_map (λ sel. record { name = name; index = index; sel = sel }) (offer_in ds name index)

-- the offers of these services, by name and index
unfoldable pub offers_of : List Declaration → List Service → List Offer
offers_of ds services = flat_map (λ s. filter_map (offer_of ds s.name) (numbers 256)) services

-- the pair of VPEs, if the first denies the second
abbrev pub deny_of : List Declaration → ℕ → ℕ → Option (ℕ × ℕ)
deny_of ds v asker = if is_denied ds v asker then Some (v, asker) else None

-- the denied pairs of these VPEs, by both
unfoldable pub denies_of : List Declaration → List VpeDecl → List (ℕ × ℕ)
denies_of ds vpes = flat_map (λ d. filter_map (λ e. deny_of ds d.vpe e.vpe) vpes) vpes

-- the kills of these VPEs, by VPE
unfoldable pub kills_of : List Declaration → List VpeDecl → List (ℕ × ℕ)
kills_of ds vpes = filter_map (λ d. option_map (λ replies. (d.vpe, replies)) (kill_in ds d.vpe)) vpes

-- how many messages a link holds: the declared number, or 4 if none is declared
abbrev pub window_of : List Declaration → ℕ
window_of ds = option_map_or (λ n. n) (window_in ds) LINK_WINDOW

-- the setup of that version and that many kernels with these declarations
unfoldable pub setup_of : (version kernels : ℕ) → List Declaration → Setup
setup_of version kernels ds = record {
  version = version;
  window = window_of ds;
  kernels = kernels;
  owners = record { kernels = kernels; owners = map (owner_in ds) (numbers PES) };
  vpes = vpes_of ds;
  services = services_of (vpes_of ds);
  offers = offers_of ds (services_of (vpes_of ds));
  denies = denies_of ds (vpes_of ds);
  kills = kills_of ds (vpes_of ds);
}

-- the lines are not refused, and they declare the setup
pub record Declare (lines : List (List ℕ)) (T : Setup) : Type 0 where
  pub accepted : lines_refusal lines ≡ None
  pub declared : T ≡ setup_of (version_of lines) (kernels_of lines) (declarations_of lines)

-- the text is not refused, and its lines declare the setup
pub record Stands (bytes : List ℕ) (T : Setup) : Type 0 where
  pub accepted : refusal bytes ≡ None
  pub declared : T ≡ setup_of (version_of (lines_of bytes)) (kernels_of (lines_of bytes))
      (declarations_of (lines_of bytes))

-- why a text is not read: it has that refusal, or memory was refused
abbrev pub IsWhy : Option TraceFault → TraceError → Type 0
IsWhy refused (Refused fault) = refused ≡ Some fault
IsWhy refused Memory = Unit {0}
