-- The services of a setup, and those of sessions, are of declared VPEs.
use Rattle.std.proofs.Common.{◌≡◌, ℕ, ◌+◌, true, false, List, [], ◌∷◌, Option, Some, None, refl, sym, ap, subst, ◌∙◌, inl, inr, eq-eqb}
use Rattle.std.specs.Prelude.{◌==◌}
use Rattle.std.specs.List.{Contains}
use Rattle.std.specs.Option.{IfSome, option_map_or, option_and_then}
use Rattle.std.proofs.lemmas.List.Elements.{Contains-append_cases}
use Rattle.sem_key.specs.declared.key.Kind.TheVariants.{Serv as ServKind}
use Rattle.sem_key.specs.declared.object.Object.{Object}
use Rattle.sem_key.specs.declared.object.Object.TheVariants.{Mem, Recv, Send, Serv, Sess}
use Rattle.sem_key.specs.KeyName.{KeyName}
use Rattle.sem_key.specs.ObjectRanges.{object_kind}
use Rattle.sem_key.specs.Capability.{Capability}
use Rattle.sem_key.proofs.Members.{found, list_any-at, Contains-nil, Contains-cons_cases, Contains-from_flat_map}
use Rattle.sem_msg.specs.declared.setup.Root.{Root}
use Rattle.sem_msg.specs.declared.setup.Service.{Service}
use Rattle.sem_msg.specs.declared.setup.VpeDecl.{VpeDecl}
use Rattle.sem_msg.specs.Setup.{Setup, IsSetup, root_key, service_with, services_from}
use Rattle.sem_msg.specs.Lookups.{decl, is_declared, is_declared_at, service_named}
use Rattle.sem_msg.specs.Message.{IsServiceKey}
use Rattle.sem_machine.specs.Sound.{IsSoundObject}
use Rattle.sem_machine.specs.Calls.{session_service}

-- the service that a root is has the key of the root
of_root : (o : Object) (k : KeyName) (s : Service) → k.kind ≡ object_kind o → Contains (service_with o k) s → (s.key.vpe ≡ k.vpe) × (s.key.kind ≡ ServKind)
of_root (Mem base len rights) k s kind among = absurd (Contains-nil s among)
of_root (Recv slots) k s kind among = absurd (Contains-nil s among)
of_root (Send gate label credits) k s kind among = absurd (Contains-nil s among)
of_root (Sess service ident) k s kind among = absurd (Contains-nil s among)
of_root (Serv name) k s kind among = elim (Contains-cons_cases (record { name = name; key = k }) [] s among) [
  | inl same ↦ (ap (λ (x : Service). x.key.vpe) (sym same), ap (λ (x : Service). x.key.kind) (sym same) ∙ kind)
  | inr none ↦ absurd (Contains-nil s none)
]

-- a service among roots is one of their VPE
served : (d : VpeDecl) (n : ℕ) (rs : List Root) (s : Service) → Contains (services_from d n rs) s → (s.key.vpe ≡ d.vpe) × (s.key.kind ≡ ServKind)
unfolding services_from
served d n [] s among = absurd (Contains-nil s among)
served d n (r ∷ rs) s among = elim (Contains-append_cases (service_with r.object (root_key d n r)) (services_from d (n + 1) rs) s among) [
  | inl here ↦ of_root r.object (root_key d n r) s refl here
  | inr rest ↦ served d (n + 1) rs s rest
]

-- a service of the setup
pub service-declared : (T : Setup) → IsSetup T → (name : ℕ) (s : Service) → Some s ≡ service_named T name →
    (is_declared T s.key.vpe ≡ true) × (s.key.kind ≡ ServKind)
service-declared T valid name s there =
    let among = (found (λ (x : Service). x.name == name) T.services s (sym there)).0 in
    let o = Contains-from_flat_map (λ (d : VpeDecl). services_from d 0 d.roots) T.vpes s ((valid.services s).0 among) in
    let at = served o.0 0 o.0.roots s o.2 in
    (list_any-at (λ (d : VpeDecl). d.vpe == s.key.vpe) T.vpes o.0 o.1 (eq-eqb o.0.vpe s.key.vpe (sym at.0)), at.1)

-- a VPE that is declared with a PE is declared
named-declared : (T : Setup) (pe v : ℕ) → is_declared_at T pe v ≡ true → is_declared T v ≡ true
named-declared T pe v at = from (decl T v) refl at
  where
    from : (o : Option VpeDecl) → decl T v ≡ o → option_map_or (λ d. d.pe == pe) o false ≡ true → is_declared T v ≡ true
    from None none no' = absurd cc
    from (Some d) there yes' =
        let at' = found (λ (x : VpeDecl). x.vpe == v) T.vpes d there in
        list_any-at (λ (x : VpeDecl). x.vpe == v) T.vpes d at'.0 at'.1

-- the service of a session
pub session-declared : (T : Setup) (o : Option Capability) (k : KeyName) → IfSome o (λ c. IsSoundObject T c.object) →
    Some k ≡ option_and_then (λ c. session_service c.object) o → IsServiceKey k × (is_declared T k.vpe ≡ true)
session-declared T None k sound is = absurd cc
session-declared T (Some c) k sound is = of_object c.object sound is
  where
    of_object : (o : Object) → IsSoundObject T o → Some k ≡ session_service o → IsServiceKey k × (is_declared T k.vpe ≡ true)
    of_object (Mem base len rights) sound' is' = absurd cc
    of_object (Recv slots) sound' is' = absurd cc
    of_object (Send gate label credits) sound' is' = absurd cc
    of_object (Serv name) sound' is' = absurd cc
    of_object (Sess service ident) sound' is' =
        let same : service ≡ k = cc in
        subst (λ q. IsServiceKey q × (is_declared T q.vpe ≡ true)) same ((sound'.0.0, sound'.0.1), named-declared T service.pe service.vpe sound'.1.1)
