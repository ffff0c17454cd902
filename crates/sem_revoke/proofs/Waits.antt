-- What it is to wait for a job: a call that revokes or clears has its key marked by its job, or gone, and one that will succeed has done its work.
use Rattle.std.proofs.Common.{◌≡◌, ◌⊎◌, ℕ, ◌<◌, ◌≤◌, true, false, not, List, [], ◌∷◌, Option, Some, None, refl, sym, ap, ◌∙◌, subst, inl, inr, arith}
use Rattle.std.specs.List.{Contains}
use Rattle.std.specs.Option.{option_map}
use Rattle.std.proofs.lemmas.Bool.{cases_eq, false_from_ne_true, cases_Bool, cond-true, cond-false, true≢false}
use Rattle.std.proofs.lemmas.Option.{same_Some}
use Rattle.sem_key.specs.KeyName.{KeyName, key_eq}
use Rattle.sem_key.specs.KeyList.{without_key}
use Rattle.sem_key.specs.Lists.{in_turn, put}
use Rattle.sem_key.specs.Capability.{Capability}
use Rattle.sem_msg.specs.declared.state.Ask.{Ask}
use Rattle.sem_msg.specs.declared.state.Ask.TheVariants.{Obtain as ObtainAsk, Delegate as DelegateAsk}
use Rattle.sem_msg.specs.declared.state.Parked.{Parked}
use Rattle.sem_msg.specs.declared.state.Parked.TheVariants.{ObtainWait, ObtainReady, ObtainCancelled, DelegateWait, DelegateReady, RevokeWait, Ready}
use Rattle.sem_msg.specs.Rows.{JobRow, VpeRow}
use Rattle.sem_msg.specs.ParkedStates.{is_ready_with}
use Rattle.sem_machine.specs.Sides.{Side, row, is_alive, cap, parked, ready, with_row, unlinked}
use Rattle.sem_machine.specs.Asks.{waits_for}
use Rattle.sem_key.specs.Region.{has_key}
use Rattle.sem_machine.specs.Revokes.{all_woken}
use Rattle.sem_key.proofs.Members.{Contains-nil, Contains-head, Contains-tail, Contains-cons_cases, Contains-from_filter}
use Rattle.sem_safety.specs.Observations.{ObservedSide, at}
use Rattle.sem_safety.proofs.Updates.{seen-with_row, seen-cap_changed}
use Rattle.sem_key.proofs.Puts.{get_or-put_same, get_or-put_other}
use Rattle.sem_key.proofs.KeyTests.{Contains-from_has_key, has_key-from_Contains}
use Rattle.sem_msg.specs.ParkedStates.{state_of}

-- A call that revokes v cuts off key k. Its own key is r: k itself for a revoke, and the parent of k for a clear.

-- with the capability of r so, it has done its work: k is not that, and not linked from there
abbrev pub Ends : KeyName → KeyName → Capability → Type 0
Ends k r c = (k ≡ r → ⊥) × (has_key c.children k ≡ false)

-- the job serves the call: it will wake the VPE, and does not keep what the call cuts off
abbrev pub Serves : JobRow → KeyName → KeyName → ℕ → Type 0
Serves x k r v = Contains x.waiters v × (k ≡ r → x.root ≡ r → x.keep ≡ false)

-- the job that is being closed has that id
abbrev pub IsClosing : Option JobRow → ℕ → Type 0
IsClosing None n = ⊥
IsClosing (Some x) n = x.id ≡ n

-- the capability of r is marked by job n, which serves the call
abbrev pub IsServed : Side → KeyName → KeyName → ℕ → ℕ → Capability → Type 0
IsServed s k r v n c = (c.mark ≡ Some n) × ((x : JobRow) → Contains s.jobs x → x.id ≡ n → Serves x k r v)

-- The call waits for a job, or will be answered, or its VPE is dead. What is so once the job has swept is said of the job that is being closed.
abbrev pub Resting : Option JobRow → Side → KeyName → KeyName → ℕ → Option Parked → Type 0
Resting closes s k r v None = is_alive s v ≡ false
Resting closes s k r v (Some (ObtainWait number sel)) = ⊥
Resting closes s k r v (Some (ObtainReady key parent object sel)) = ⊥
Resting closes s k r v (Some ObtainCancelled) = ⊥
Resting closes s k r v (Some (DelegateWait parent)) = ⊥
Resting closes s k r v (Some (DelegateReady parent key)) = ⊥
Resting closes s k r v (Some (RevokeWait n)) =
    (n < s.next_job)
    × ((IsClosing closes n → ⊥) → (c : Capability) → cap s r ≡ Some c → IsServed s k r v n c)
    × ((x : JobRow) → closes ≡ Some x → x.id ≡ n → (c : Capability) → cap s r ≡ Some c → Ends k r c × Contains x.waiters v)
Resting closes s k r v (Some (Ready code)) = (code ≡ 0) × ((c : Capability) → cap s r ≡ Some c → Ends k r c)

-- what a step may do to the capability of r, and to the jobs
abbrev pub CapsOn : KeyName → KeyName → Side → Side → Type 0
CapsOn k r s t = (c : Capability) → cap t r ≡ Some c → (d : Capability) × (cap s r ≡ Some d) × ((n : ℕ) → d.mark ≡ Some n → c.mark ≡ Some n)
    × (has_key d.children k ≡ false → has_key c.children k ≡ false)

abbrev pub JobsOn : KeyName → KeyName → ℕ → Side → Side → Type 0
JobsOn k r v s t = (y : JobRow) → Contains t.jobs y → y.id < s.next_job → (x : JobRow) × Contains s.jobs x × (x.id ≡ y.id) × (Serves x k r v → Serves y k r v)

pub same-caps : (k r : KeyName) (s t : Side) → ((q : KeyName) → cap t q ≡ cap s q) → CapsOn k r s t
same-caps k r s t same c held = (c, sym (same r) ∙ held, λ n marked. marked, λ none. none)

pub same-jobs : (k r : KeyName) (v : ℕ) (s t : Side) → t.jobs ≡ s.jobs → JobsOn k r v s t
same-jobs k r v s t same y among low = (y, subst (λ xs. Contains xs y) same among, refl, λ is. is)

-- it rests on
pub resting-on : (closes : Option JobRow) (s t : Side) (k r : KeyName) (v : ℕ) (p : Option Parked) → CapsOn k r s t → JobsOn k r v s t →
    s.next_job ≤ t.next_job → (is_alive s v ≡ false → is_alive t v ≡ false) → Resting closes s k r v p → Resting closes t k r v p
resting-on closes s t k r v None caps jobs next dead is = dead is
resting-on closes s t k r v (Some (ObtainWait number sel)) caps jobs next dead is = is
resting-on closes s t k r v (Some (ObtainReady key parent object sel)) caps jobs next dead is = is
resting-on closes s t k r v (Some ObtainCancelled) caps jobs next dead is = is
resting-on closes s t k r v (Some (DelegateWait parent)) caps jobs next dead is = is
resting-on closes s t k r v (Some (DelegateReady parent key)) caps jobs next dead is = is
resting-on closes s t k r v (Some (RevokeWait n)) caps jobs next dead is = (
  (let low = is.0 in omega (arith, low, next)),
  λ open_ c held.
      let d = caps c held in
      let served = is.1 open_ d.0 d.1 in
      (d.2 n served.0, λ y among same. let low = is.0 in let x = jobs y among (omega (arith, low, same)) in x.3 (served.1 x.0 x.1 (x.2 ∙ same))),
  λ x closing same c held. let d = caps c held in let ends = is.2 x closing same d.0 d.1 in ((ends.0.0, d.3 ends.0.1), ends.1),
)
resting-on closes s t k r v (Some (Ready code)) caps jobs next dead is = (
  is.0,
  λ c held. let d = caps c held in let ends = is.1 d.0 d.1 in
      (ends.0, d.3 ends.1),
)

-- a state in which a call asks, or is to install, is not at rest
pub asks-rest : (s : Side) (k r : KeyName) (v : ℕ) (a : Ask) (p : Option Parked) → waits_for a p ≡ true → Resting None s k r v p → ⊥
asks-rest s k r v (ObtainAsk place target) None waits is = absurd cc
asks-rest s k r v (ObtainAsk place target) (Some (ObtainWait number sel)) waits is = is
asks-rest s k r v (ObtainAsk place target) (Some (ObtainReady key parent object sel)) waits is = is
asks-rest s k r v (ObtainAsk place target) (Some ObtainCancelled) waits is = is
asks-rest s k r v (ObtainAsk place target) (Some (DelegateWait parent)) waits is = is
asks-rest s k r v (ObtainAsk place target) (Some (DelegateReady parent key)) waits is = is
asks-rest s k r v (ObtainAsk place target) (Some (RevokeWait n)) waits is = absurd cc
asks-rest s k r v (ObtainAsk place target) (Some (Ready code)) waits is = absurd cc
asks-rest s k r v (DelegateAsk parent object sel) None waits is = absurd cc
asks-rest s k r v (DelegateAsk parent object sel) (Some (ObtainWait number sel')) waits is = is
asks-rest s k r v (DelegateAsk parent object sel) (Some (ObtainReady key parent' object' sel')) waits is = is
asks-rest s k r v (DelegateAsk parent object sel) (Some ObtainCancelled) waits is = is
asks-rest s k r v (DelegateAsk parent object sel) (Some (DelegateWait parent')) waits is = is
asks-rest s k r v (DelegateAsk parent object sel) (Some (DelegateReady parent' key)) waits is = is
asks-rest s k r v (DelegateAsk parent object sel) (Some (RevokeWait n)) waits is = absurd cc
asks-rest s k r v (DelegateAsk parent object sel) (Some (Ready code)) waits is = absurd cc

pub asks-wait : (a : Ask) (n : ℕ) → waits_for a (Some (RevokeWait n)) ≡ true → ⊥
asks-wait (ObtainAsk place target) n waits = absurd cc
asks-wait (DelegateAsk parent object sel) n waits = absurd cc

pub ready-rest : (s : Side) (k r q : KeyName) (v : ℕ) (p : Option Parked) → is_ready_with q p ≡ true → Resting None s k r v p → ⊥
ready-rest s k r q v None ready is = absurd cc
ready-rest s k r q v (Some (ObtainWait number sel)) ready is = is
ready-rest s k r q v (Some (ObtainReady key parent object sel)) ready is = is
ready-rest s k r q v (Some ObtainCancelled) ready is = is
ready-rest s k r q v (Some (DelegateWait parent)) ready is = is
ready-rest s k r q v (Some (DelegateReady parent key)) ready is = is
ready-rest s k r q v (Some (RevokeWait n)) ready is = absurd cc
ready-rest s k r q v (Some (Ready code)) ready is = absurd cc

unlinked-mapped : (k : KeyName) (o : Option Capability) (c : Capability) → option_map (λ (x : Capability). record x { children = without_key x.children k }) o
    ≡ Some c → (d : Capability) × (o ≡ Some d) × (d.mark ≡ c.mark) × (c.children ≡ without_key d.children k)
unlinked-mapped k None c none = absurd cc
unlinked-mapped k (Some d) c some =
    let same = same_Some (record d { children = without_key d.children k }) c some in
    (d, refl, ap (λ (x : Capability). x.mark) same, ap (λ (x : Capability). x.children) (sym same))

-- a child that is not there is not there once another is gone
still-none : (ks : List KeyName) (q k : KeyName) → has_key ks k ≡ false → has_key (without_key ks q) k ≡ false
still-none ks q k none =
    false_from_ne_true (has_key (without_key ks q) k)
    (λ has. true≢false (sym (has_key-from_Contains ks k (Contains-from_filter (λ x. not (key_eq x q)) ks k (Contains-from_has_key (without_key ks q) k has)).0)
    ∙ none))

-- what is held once a link is gone was held, with the same mark and no link less
pub unlinked-caps : (s : Side) (p q k r : KeyName) → CapsOn k r s (unlinked p q s)
unlinked-caps s p q k r c held =
    let f : Capability → Capability = λ (x : Capability). record x { children = without_key x.children q } in
    let seen = ap (λ (z : ObservedSide). z.cap r) (seen-cap_changed p f s (λ x. refl)) in
    elim (cases_Bool (key_eq r p)) [
      | inl same ↦
          let d = unlinked-mapped q (cap s r) c (sym (seen ∙ cond-true (key_eq r p) (option_map f (cap s r)) (cap s r) same) ∙ held) in
          (d.0, d.1, λ n marked. sym d.2 ∙ marked, λ none. ap (λ ks. has_key ks k) d.3 ∙ still-none d.0.children q k none)
      | inr differ ↦ (c, sym (seen ∙ cond-false (key_eq r p) (option_map f (cap s r)) (cap s r) differ) ∙ held, λ n marked. marked, λ none. none)
    ]

-- Parked calls.
pub parked-here : (s : Side) (v : ℕ) (p : Option Parked) → parked (record s { parks = put None s.parks v p }) v ≡ p
parked-here s v p = get_or-put_same None s.parks v p

pub parked-other : (s : Side) (v : ℕ) (p : Option Parked) (w : ℕ) → (w ≡ v → ⊥) → parked (record s { parks = put None s.parks v p }) w ≡ parked s w
parked-other s v p w other = get_or-put_other None s.parks v w p other

-- those who are woken are ready, and the others stay
pub woken-at : (vs : List ℕ) (ps : List (Option Parked)) (w : ℕ) → (Contains vs w × (state_of (all_woken vs ps) w ≡ Some (Ready 0)))
    ⊎ ((Contains vs w → ⊥) × (state_of (all_woken vs ps) w ≡ state_of ps w))
unfolding in_turn
woken-at [] ps w = inr (Contains-nil w, refl)
woken-at (v ∷ vs) ps w = elim (woken-at vs (put None ps v (Some (Ready 0))) w) [
  | inl (among, ready) ↦ inl (Contains-tail v vs w among, ready)
  | inr (others, same) ↦ elim (cases_eq w v) [
    | inl here ↦ inl (
      subst (Contains (v ∷ vs)) (sym here) (Contains-head v vs),
      same
          ∙ (ap (state_of (put None ps v (Some (Ready 0)))) here ∙ get_or-put_same None ps v (Some (Ready 0))),
    )
    | inr away ↦ inr (
      λ among. elim (Contains-cons_cases v vs w among) [ inl is ↦ away (sym is) | inr later ↦ others later ],
      same
          ∙ get_or-put_other None ps v w (Some (Ready 0)) away,
    )
  ]
]

pub wait-id : (a b : ℕ) → Some (RevokeWait a) ≡ Some (RevokeWait b) → a ≡ b
wait-id a b same = ap number (same_Some (RevokeWait a) (RevokeWait b) same)
  where
    number : Parked → ℕ
    number (ObtainWait n sel) = 0
    number (ObtainReady key parent object sel) = 0
    number ObtainCancelled = 0
    number (DelegateWait parent) = 0
    number (DelegateReady parent key) = 0
    number (RevokeWait n) = n
    number (Ready code) = 0

-- what is kept of a VPE that is alive no more
pub row-at : (v : ℕ) (f : VpeRow → VpeRow) (s : Side) (w : ℕ) → row (with_row v f s) w ≡ at v (f (row s v)) (row s) w
row-at v f s w = ap (λ (z : ObservedSide). z.row w) (seen-with_row v f s)
