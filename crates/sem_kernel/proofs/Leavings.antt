-- What becomes of a capability that a VPE leaves when it ends, and of the room for that.
use Rattle.std.proofs.Common.{◌≡◌, ℕ, ◌+◌, ◌<◌, ◌≤◌, Bool, true, false, List, [], ◌∷◌, ◌++◌, length, map, Option, Some, None, refl, sym, ◌∙◌, ap, subst, arith}
use Rattle.std.proofs.Common.{if◌then◌else◌}
use Rattle.std.specs.Prelude.{IfSome, ◌==◌}
use Rattle.std.specs.List.{All, filter, list_any, sum_by}
use Rattle.std.specs.Option.{option_map_or, option_and_then, is_none}
use Rattle.std.proofs.lemmas.Bool.{cond_both}
use Rattle.std.proofs.lemmas.List.Sums.{sum_by-cons}
use Rattle.sem_key.specs.KeyName.{KeyName, key_eq}
use Rattle.sem_key.specs.KeyList.{without_key}
use Rattle.sem_key.specs.Capability.{Capability}
use Rattle.sem_key.specs.CapList.{link_count, with_mark}
use Rattle.sem_key.specs.Region.{region, children_of, all_marked}
use Rattle.sem_key.proofs.Members.{Contains-nil}
use Rattle.sem_msg.specs.JobRows.{job_of}
use Rattle.sem_msg.specs.Setup.{Setup, IsSetup}
use Rattle.sem_machine.specs.Sides.{Side, row, cap, parked}
use Rattle.sem_machine.specs.Revokes.{opened, begin, finished}
use Rattle.sem_key.specs.Lists.{in_turn}
use Rattle.sem_machine.specs.Ends.{revoked_if_left, ended_but_held, ended, keys_of_vpe}
use Rattle.sem_machine.specs.Sound.{IsSound, IsSoundBut, IsSoundAsk}
use Rattle.sem_machine.proofs.Weighing.{weigh-map}
use Rattle.sem_machine.proofs.Lengths.{without_key-shorter, filter-shorter}
use Rattle.sem_mark.proofs.Opened.{marked-length}
use Rattle.sem_sound.proofs.Opening.{opened-sound}
use Rattle.sem_sound.proofs.Revoking.{slack-of}
use Rattle.sem_sound.proofs.Refusing.{revoked-sound}
use Rattle.sem_kernel.specs.declared.stores.Stores.{Stores}
use Rattle.sem_kernel.specs.Rooms.{open_links, HasRoomForJobs}
use Rattle.sem_sweep.specs.Sweeping.{HasAsker, CanOwe}
use Rattle.sem_kernel.proofs.Meets.{owner-below}
use Rattle.sem_kernel.proofs.Asked.{place-below}
use Rattle.sem_kernel.proofs.Openings.{All-each}
use Rattle.sem_msg.specs.declared.state.Ask.{Ask}
use Rattle.sem_msg.specs.declared.state.Ask.TheVariants.{Obtain as ObtainAsk, Delegate as DelegateAsk}
use Rattle.sem_msg.specs.declared.state.Parked.{Parked}
use Rattle.sem_msg.specs.declared.state.Parked.TheVariants.{ObtainWait, ObtainReady, ObtainCancelled, DelegateWait, DelegateReady, RevokeWait, Ready}
use Rattle.std.proofs.lemmas.List.{length-map}
use Rattle.sem_kernel.specs.Ending.{is_unmarked}
use Rattle.sem_kernel.proofs.Lengths.{opened-jobs, opened-caps}
use Rattle.sem_kernel.proofs.Shrinking.{finish-less, children-links}

-- marks leave the links
marked-links : (ks : List KeyName) (j : ℕ) (cs : List Capability) → link_count (all_marked ks j cs) ≡ link_count cs
marked-links ks j cs = weigh-map (λ (c : Capability). length c.children) (λ c. if list_any (key_eq c.key) ks then with_mark j c
    else c) (λ c. cond_both (list_any (key_eq c.key) ks) (with_mark j c) c (λ (x : Capability). length x.children ≡ length c.children) (λ _. refl) (λ _. refl))
    cs

module _ (T : Setup) (i : ℕ) (k : KeyName) (s : Side) (t : Side) where
  abbrev IsOpened : Type 0
  IsOpened = t ≡ opened T i k None [] false s

  pub plain-jobs : IsOpened → length t.jobs ≡ length s.jobs + 1
  plain-jobs is_opened = ap (λ (u : Side). length u.jobs) is_opened ∙ opened-jobs T i k None [] false s

  pub plain-caps : IsOpened → length t.caps ≡ length s.caps
  plain-caps is_opened = ap (λ (u : Side). length u.caps) is_opened
      ∙ (ap length (opened-caps T i k None [] false s) ∙ marked-length (region s.caps k) s.next_job s.caps)

  pub plain-links : IsOpened → link_count t.caps ≡ link_count s.caps
  plain-links is_opened = ap (λ (u : Side). link_count u.caps) is_opened
      ∙ (ap link_count (opened-caps T i k None [] false s) ∙ marked-links (region s.caps k) s.next_job s.caps)

  -- the links of the region are asked for, and are not open any more
  pub opened-fewer : IsOpened → open_links t.caps + length (children_of s.caps (region s.caps k)) ≤ open_links s.caps
  opened-fewer is_opened =
      let caps = ap (λ (u : Side). open_links u.caps) is_opened ∙ ap open_links (opened-caps T i k None [] false s) in
      let fewer = children-links s.next_job s.caps k in
      omega (arith, caps, fewer)

pub children-open : (caps : List Capability) (k : KeyName) → length (children_of caps (region caps k)) ≤ open_links caps
children-open caps k = let fewer = children-links 0 caps k in omega (arith, fewer)

module _ (T : Setup) (i : ℕ) (k : KeyName) where
  abbrev if_there : Option Capability → Side → Side
  if_there None s = s
  if_there (Some c) s = option_map_or (λ m. s) c.mark (begin T i k None [] false s)

  there-open : (o : Option Capability) (s : Side) → is_unmarked o ≡ true → if_there o s ≡ begin T i k None [] false s
  there-open None s none = absurd cc
  there-open (Some c) s unmarked = from c.mark unmarked
    where
      from : (m : Option ℕ) → is_none m ≡ true → option_map_or (λ m. s) m (begin T i k None [] false s) ≡ begin T i k None [] false s
      from None is = refl
      from (Some j) none = absurd cc

  there-other : (o : Option Capability) (s : Side) → is_unmarked o ≡ false → if_there o s ≡ s
  there-other None s none = refl
  there-other (Some c) s marked = from c.mark marked
    where
      from : (m : Option ℕ) → is_none m ≡ false → option_map_or (λ m. s) m (begin T i k None [] false s) ≡ s
      from None none = absurd cc
      from (Some j) is = refl

  -- it is revoked where it is held without a mark, and nothing is done else
  pub revoked-open : (s : Side) → is_unmarked (cap s k) ≡ true → revoked_if_left T i k s ≡ begin T i k None [] false s
  revoked-open s unmarked = there-open (cap s k) s unmarked

  pub revoked-other : (s : Side) → is_unmarked (cap s k) ≡ false → revoked_if_left T i k s ≡ s
  revoked-other s other = there-other (cap s k) s other

module _ (T : Setup) (valid : IsSetup T) (i : ℕ) (few : i < T.kernels) (s : Side) (is : IsSound T i s) (k : KeyName) where
  pub left-middle : is_unmarked (cap s k) ≡ true → (o : Option ℕ) (t : Side) → IfSome o (λ j. j ≡ s.next_job) → t ≡ opened T i k None [] false s →
      IfSome o (λ j. IsSoundBut T i None None None (Some j) 0 t)
  left-middle unmarked None t same is_opened = tt
  left-middle unmarked (Some j) t same is_opened = from (cap s k) refl unmarked
    where
      none-of : (m : Option ℕ) → is_none m ≡ true → m ≡ None
      none-of None is = refl
      none-of (Some j) none = absurd cc

      from : (a : Option Capability) → cap s k ≡ a → is_unmarked a ≡ true → IsSoundBut T i None None None (Some j) 0 t
      from None at none = absurd cc
      from (Some c) at open' =
          let middle = opened-sound T valid i few s is k None [] false c at (none-of c.mark open') tt (λ a b e lt within. absurd (omega (arith, lt, within)))
          (λ w none. absurd (Contains-nil w none)) (slack-of T valid i few s is) in
          subst (λ n. IsSoundBut T i None None None (Some n) 0 t) (sym same) (subst (IsSoundBut T i None None None (Some s.next_job) 0) (sym is_opened) middle)

  pub left-sound : IsSound T i (revoked_if_left T i k s)
  left-sound = (revoked-sound T valid i few k (cap s k) s refl is).0

-- Finishing.

ones-length : (cs : List Capability) → sum_by (λ (c : Capability). 1) cs ≡ length cs
ones-length [] = refl
ones-length (c ∷ cs) =
    let whole = sum_by-cons (λ (x : Capability). 1) c cs in
    let rest = ones-length cs in
    omega (arith, whole, rest)

module _ (T : Setup) (i : ℕ) (o : Option ℕ) (s t : Side) (row : t ≡ finished T i o s) where
  pub finished-caps : length t.caps ≤ length s.caps
  finished-caps =
      let same = ap (λ (u : Side). length u.caps) row in
      let less = finish-less (λ c. 1) (λ c. omega arith) (λ c k. omega arith) T i (length s.jobs) (option_and_then (job_of s.jobs) o) s in
      let before = ones-length s.caps in
      let after = ones-length (finished T i o s).caps in
      omega (arith, same, less, before, after)

  pub finished-links : link_count t.caps ≤ link_count s.caps
  finished-links =
      let same = ap (λ (u : Side). link_count u.caps) row in
      let less = finish-less (λ (c : Capability). length c.children) (λ c. omega arith) (λ c k. without_key-shorter c.children k) T i (length s.jobs)
      (option_and_then (job_of s.jobs) o) s in
      omega (arith, same, less)

  pub finished-open : open_links t.caps ≤ open_links s.caps
  finished-open =
      let same = ap (λ (u : Side). open_links u.caps) row in
      let less = finish-less (λ (c : Capability). if is_none c.mark then length c.children else 0) (λ c. omega arith) (λ c k. weaker c k) T i (length s.jobs)
      (option_and_then (job_of s.jobs) o) s in
      omega (arith, same, less)
    where
      weaker : (c : Capability) (k : KeyName) → (if is_none c.mark then length (without_key c.children k) else 0) ≤ (if is_none c.mark then length c.children
          else 0)
      weaker c k = from (is_none c.mark)
        where
          from : (b : Bool) → (if b then length (without_key c.children k) else 0) ≤ (if b then length c.children else 0)
          from true = without_key-shorter c.children k
          from false = omega arith

-- room for some jobs is room for fewer
pub fewer-jobs : (n m : ℕ) (x : Stores) → m ≤ n → HasRoomForJobs n x → HasRoomForJobs m x
fewer-jobs n m x less room = record {
  jobs = (let have = room.jobs in omega (arith, have, less));
  outs = (let have = room.outs in omega (arith, have, less));
  keys = room.keys;
  links = room.links;
  gone = room.gone;
}

-- what was listed where nothing was listed before
pub listed-is : (cs : List Capability) (v : ℕ) (before after : List KeyName) →
    after ≡ before ++ filter (λ (k : KeyName). k.vpe == v) (map (λ (c : Capability). c.key) cs) → before ≡ [] →
    after ≡ filter (λ (k : KeyName). k.vpe == v) (map (λ (c : Capability). c.key) cs)
listed-is cs v before after is none = is ∙ ap (λ (ks : List KeyName). ks ++ filter (λ (k : KeyName). k.vpe == v) (map (λ (c : Capability). c.key) cs)) none

-- a VPE has ended where what it held was revoked
pub ended-row : (T : Setup) (i v : ℕ) (s m : Side) (ks : List KeyName) → m ≡ ended_but_held T i v s →
    ks ≡ filter (λ (k : KeyName). k.vpe == v) (map (λ (c : Capability). c.key) m.caps) → in_turn (revoked_if_left T i) ks m ≡ ended T i v s
unfolding ended
ended-row T i v s m ks row items = ap (λ (xs : List KeyName). in_turn (revoked_if_left T i) xs m) items
    ∙ ap (λ (u : Side). in_turn (revoked_if_left T i) (keys_of_vpe u v) u) row

-- a VPE holds no more than its kernel
pub listed-few : (cs : List Capability) (v : ℕ) (ks : List KeyName) → ks ≡ filter (λ (k : KeyName). k.vpe == v) (map (λ (c : Capability). c.key) cs) →
    length ks ≤ length cs
listed-few cs v ks is =
    let fewer = filter-shorter (λ (k : KeyName). k.vpe == v) (map (λ (c : Capability). c.key) cs) in
    let same = length-map cs (λ (c : Capability). c.key) in
    let long = ap length is in
    omega (arith, fewer, same, long)

module _ (T : Setup) (valid : IsSetup T) (i : ℕ) (few : i < T.kernels) (s : Side) (is : IsSound T i s) (v : ℕ) where
  -- who asks a VPE has a kernel
  pub askers : All (HasAsker T) (row s v).asks
  askers = All-each (HasAsker T) (row s v).asks (λ a among. from a ((is.rows v).asks a among))
    where
      from : (a : Ask) → IsSoundAsk T a → HasAsker T a
      from (ObtainAsk place target) sound = place-below T valid i few place sound.0
      from (DelegateAsk parent object sel) sound = owner-below T valid i few parent sound.0

  -- what its call owes can be sent
  pub owes : CanOwe T (parked s v)
  owes = from (parked s v) refl
    where
      from : (o : Option Parked) → parked s v ≡ o → CanOwe T o
      from None at = tt
      from (Some (ObtainWait number sel)) at = tt
      from (Some (ObtainReady key parent object sel)) at = owner-below T valid i few parent (is.calls v (ObtainReady key parent object sel) at).1.2.0
      from (Some ObtainCancelled) at = tt
      from (Some (DelegateWait parent)) at = tt
      from (Some (DelegateReady parent key)) at = owner-below T valid i few key (is.calls v (DelegateReady parent key) at).1.2.0
      from (Some (RevokeWait j)) at = tt
      from (Some (Ready code)) at = tt
