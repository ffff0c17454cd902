-- The children of a region are named, and no more than a count can tell.
use Rattle.std.proofs.Common.{◌≡◌, ℕ, ◌+◌, ◌<◌, ◌≤◌, Bool, false, List, [], ◌∷◌, length, Option, Some, None, refl, sym, ap, subst, ◌∙◌, inl, inr, arith}
use Rattle.std.specs.Prelude.{◌==◌, if◌then◌else◌}
use Rattle.std.specs.List.{Contains}
use Rattle.std.proofs.lemmas.Bool.{cond_both}
use Rattle.std.proofs.lemmas.List.Elements.{Contains-push_cases}
use Rattle.sem_key.specs.KeyName.{KeyName}
use Rattle.sem_key.specs.Lists.{in_turn, change}
use Rattle.sem_key.specs.Capability.{Capability}
use Rattle.sem_msg.specs.declared.message.Message.TheVariants.{RevokeReq}
use Rattle.sem_msg.specs.declared.state.Up.{Up}
use Rattle.sem_msg.specs.declared.state.Up.TheVariants.{Local}
use Rattle.sem_msg.specs.Rows.{JobRow}
use Rattle.sem_msg.specs.Setup.{Setup, IsSetup}
use Rattle.sem_msg.specs.Lookups.{owner_of, is_local}
use Rattle.sem_machine.specs.Sound.{IsNamed, IsSound}
use Rattle.sem_machine.specs.Sides.{Side, cap, job_opened, mark_all, unbind_all, send}
use Rattle.sem_key.specs.Region.{region, children_of, linked_from}
use Rattle.sem_sound.specs.SoundWorlds.{CountsFit}
use Rattle.sem_machine.specs.Revokes
use Rattle.sem_machine.proofs.Folds.{in_turn-keeps}
use Rattle.std.proofs.lemmas.Bool.{cases_eq, eqb-true}
use Rattle.sem_machine.specs.Revokes.{other_marker, adopted, with_up, count_raised, request_or_adopt}
use Rattle.sem_key.proofs.Members.{Contains-from_map}
use Rattle.sem_machine.proofs.Doomed.{region-doomed, children-doomed}
use Rattle.sem_sound.proofs.Rising.{key_set-rises, keys-few}
use Rattle.sem_sound.proofs.Holding.{cap-among}

module _ (T : Setup) (valid : IsSetup T) (i : ℕ) (few : i < T.kernels) (s : Side) (is : IsSound T i s) where
  -- the children of a region are named, and fewer than a count can be
  pub children-named : (root : KeyName) (c : Capability) → cap s root ≡ Some c → (k : KeyName) → Contains (children_of s.caps (region s.caps root)) k →
      IsNamed T k
  children-named root c held k among =
      let at = cap-among T valid i few None None None None s is root c held in
      let links : (d : Capability) → Contains s.caps d → (q : KeyName) → Contains d.children q →
      IsNamed T q = λ d in_caps q child. (is.caps d in_caps).children q child in
      let region-named = region-doomed (λ q r. IsNamed T r) (IsNamed T) (λ q r g m. g) s.caps links root (subst (IsNamed T) at.1 (is.caps c at.0).own.0) in
      children-doomed (λ q r. IsNamed T r) (IsNamed T) (λ q r g m. g) s.caps links (region s.caps root) region-named k among

  pub children-fit : (root : KeyName) (c : Capability) → cap s root ≡ Some c → length (children_of s.caps (region s.caps root)) ≤ 9223372036854775808
  children-fit root c held = keys-few (children_of s.caps (region s.caps root)) (key_set-rises (linked_from s.caps (region s.caps root)))
      (λ k among. (children-named root c held k among).0)

-- Counts.

-- each job of that id has so many tokens out at most
abbrev Few : ℕ → ℕ → Side → Type 0
Few j m t = (x : JobRow) → Contains t.jobs x → x.id ≡ j → x.count ≤ m

changed-few : (j m n q : ℕ) (f : JobRow → JobRow) → ((x : JobRow) → ((f x).id ≡ x.id) × ((f x).count ≤ x.count + n)) → (t : Side) → Few j m t →
    Few j (m + n) (record t { jobs = change (λ x. x.id == q) f t.jobs })
changed-few j m n q f more t is x among id =
    let g : JobRow → JobRow = λ y. if y.id == q then f y else y in
    let o = Contains-from_map g t.jobs x among in
    let both : ((g o.0).id ≡ o.0.id) × ((g o.0).count ≤ o.0.count + n) = cond_both (o.0.id == q) (f o.0) o.0 (λ (y : JobRow). (y.id ≡ o.0.id)
    × (y.count ≤ o.0.count + n)) (λ _. more o.0) (λ _. (refl, omega arith)) in
    let before = is o.0 o.1 (sym both.0 ∙ (ap (λ (y : JobRow). y.id) o.2 ∙ id)) in
    let count : (g o.0).count ≡ x.count = ap (λ (y : JobRow). y.count) o.2 in
    let grown = both.1 in
    omega (arith, before, count, grown)

request-few : (T : Setup) (i j m : ℕ) (k : KeyName) (t : Side) → Few j m t → Few j (m + 1) (request_or_adopt T i j k t)
request-few T i j m k t is = cond_both (is_local T i k) (adopted j (other_marker j (cap t k)) t) (count_raised j (send (owner_of T k) (RevokeReq k j) t))
    (Few j (m + 1)) (λ _. adopts (other_marker j (cap t k))) (λ _. changed-few j m 1 j (λ x. record x { count = x.count + 1 }) (λ x. (refl, omega arith))
    (send (owner_of T k) (RevokeReq k j) t) is)
  where
    adopts : (o : Option ℕ) → Few j (m + 1) (adopted j o t)
    adopts None = λ x among id. let before = is x among id in omega (arith, before)
    adopts (Some q) = changed-few j m 1 j (λ x. record x { count = x.count + 1 }) (λ x. (refl, omega arith)) (with_up (Local j) q t) (λ x among id. let same =
        changed-few j m 0 q (λ y. record y { up = Some (Local j); keep = false }) (λ y. (refl, omega arith)) t is x among id in omega (arith, same))

requests-few : (T : Setup) (i j m : ℕ) (ks : List KeyName) (t : Side) → Few j m t → Few j (m + length ks) (in_turn (request_or_adopt T i j) ks t)
unfolding in_turn
requests-few T i j m [] t is = λ x among id. let before = is x among id in omega (arith, before)
requests-few T i j m (k ∷ ks) t is = λ x among id. let all =
    requests-few T i j (m + 1) ks (request_or_adopt T i j k t) (request-few T i j m k t is) x among id in omega (arith, all)

-- every other job has a count that fits
abbrev FitBut : ℕ → Side → Type 0
FitBut j t = (x : JobRow) → Contains t.jobs x → (x.id ≡ j → ⊥) → x.count ≤ 9223372036854775808

changed-but : (j q : ℕ) (f : JobRow → JobRow) → ((x : JobRow) → ((f x).id ≡ x.id) × ((q ≡ j → ⊥) → (f x).count ≤ x.count)) → (t : Side) → FitBut j t →
    FitBut j (record t { jobs = change (λ x. x.id == q) f t.jobs })
changed-but j q f same t is x among other =
    let g : JobRow → JobRow = λ y. if y.id == q then f y else y in
    let o = Contains-from_map g t.jobs x among in
    let both : ((g o.0).id ≡ o.0.id) × ((o.0.id ≡ j → ⊥) → (g o.0).count ≤ o.0.count) = cond_both (o.0.id == q) (f o.0) o.0 (λ (y : JobRow). (y.id ≡ o.0.id)
    × ((o.0.id ≡ j → ⊥) → y.count ≤ o.0.count)) (λ here. let id = eqb-true o.0.id q here in
    ((same o.0).0, λ differs. (same o.0).1 (λ at. differs (id ∙ at)))) (λ _. (refl, λ _. omega arith)) in
    let not_j : o.0.id ≡ j → ⊥ = λ at. other (sym (ap (λ (y : JobRow). y.id) o.2) ∙ (both.0 ∙ at)) in
    let before = is o.0 o.1 not_j in
    let less = both.1 not_j in
    let count : (g o.0).count ≡ x.count = ap (λ (y : JobRow). y.count) o.2 in
    omega (arith, before, less, count)

request-but : (T : Setup) (i j : ℕ) (k : KeyName) (t : Side) → FitBut j t → FitBut j (request_or_adopt T i j k t)
request-but T i j k t is = cond_both (is_local T i k) (adopted j (other_marker j (cap t k)) t) (count_raised j (send (owner_of T k) (RevokeReq k j) t))
    (FitBut j) (λ _. adopts (other_marker j (cap t k))) (λ _. raises (send (owner_of T k) (RevokeReq k j) t) is)
  where
    raises : (u : Side) → FitBut j u → FitBut j (count_raised j u)
    raises u fit = changed-but j j (λ x. record x { count = x.count + 1 }) (λ x. (refl, λ differs. absurd (differs refl))) u fit

    adopts : (o : Option ℕ) → FitBut j (adopted j o t)
    adopts None = is
    adopts (Some q) =
        raises (with_up (Local j) q t) (changed-but j q (λ y. record y { up = Some (Local j); keep = false }) (λ y. (refl, λ _. omega arith)) t is)

-- a job is opened and its region marked
abbrev pub opened : Side → KeyName → Option Up → List ℕ → Bool → Side
opened s root up ws keep = unbind_all (region s.caps root) (mark_all (region s.caps root) s.next_job (job_opened root up ws keep s))

-- while a job is opened, it has no more tokens out than children were settled
pub counts-fit : (T : Setup) (i : ℕ) (s : Side) → IsSound T i s →
    (root : KeyName) (up : Option Up) (ws : List ℕ) (keep : Bool) (settled : List KeyName) (x : JobRow) →
    Contains (in_turn (request_or_adopt T i s.next_job) settled (opened s root up ws keep)).jobs x → x.id ≡ s.next_job → x.count ≤ length settled
counts-fit T i s is root up ws keep settled x among id = let all = requests-few T i s.next_job 0 settled (opened s root up ws keep) first x among id in
    omega (arith, all)
  where
    first : Few s.next_job 0 (opened s root up ws keep)
    first y in_jobs same = elim (Contains-push_cases s.jobs (record { id = s.next_job; root = root; up = up; waiters = ws; count = 0; keep = keep }) y in_jobs) [
      | inl before ↦ let below = is.ids_drawn y before in absurd (omega (arith, below, same))
      | inr new ↦ let none : 0 ≡ y.count = ap (λ (z : JobRow). z.count) new in omega (arith, none)
    ]

-- a job that opens leaves counts that fit
pub opened-fit : (T : Setup) → IsSetup T → (i : ℕ) → i < T.kernels → (s : Side) → IsSound T i s →
    (root : KeyName) (up : Option Up) (ws : List ℕ) (keep : Bool) (c : Capability) → cap s root ≡ Some c → CountsFit s →
    CountsFit (Revokes.opened T i root up ws keep s)
unfolding Revokes.opened
opened-fit T valid i few s is root up ws keep c held fit x among = elim (cases_eq x.id s.next_job) [
  | inl same ↦
      let count = counts-fit T i s is root up ws keep children x among same in
      let most = children-fit T valid i few s is root c held in
      omega (arith, count, most)
  | inr other ↦ in_turn-keeps (FitBut s.next_job) (request_or_adopt T i s.next_job) (λ k t here. request-but T i s.next_job k t here) children
      (opened s root up ws keep) first x among other
]
  where
    children : List KeyName
    children = children_of s.caps (region s.caps root)

    first : FitBut s.next_job (opened s root up ws keep)
    first y in_jobs other = elim (Contains-push_cases s.jobs (record { id = s.next_job; root = root; up = up; waiters = ws; count = 0; keep = keep }) y in_jobs) [
      | inl before ↦ fit y before
      | inr new ↦ absurd (other (sym (ap (λ (z : JobRow). z.id) new)))
    ]
