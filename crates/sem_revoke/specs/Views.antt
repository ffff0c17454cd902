-- What the proof of revocation reads off a world, and what holds of it ("Revocation" in
-- docs/proof.md).
use Rattle.std.specs.Prelude.{◌≡◌, ℕ, ◌+◌, ◌≤◌, ◌==◌, true, ◌&&◌, ◌⊎◌, List, Option, Some, None, if◌then◌else◌, false}
use Rattle.sem_machine.specs.Prelude.{KeyName, Capability, JobRow, has_key}

pub record View : Type 0 where
  -- the capability of a key, at the kernel that owns the key
  pub hold : KeyName → Option Capability
  -- how often a key is on its way to be held
  pub gifts : KeyName → ℕ
  -- the open job of an id of a kernel
  pub job : ℕ → ℕ → Option JobRow
  -- how many requests for a key kernel a sent for its job b, and how many jobs with that root job b
  -- of kernel a waits for
  pub asked : KeyName → ℕ → ℕ → ℕ
  -- how many tokens are out for job b of kernel a
  pub tokens : ℕ → ℕ → ℕ
  -- how many tokens the job counts
  pub count : ℕ → ℕ → ℕ
  -- how many messages say that a key is gone
  pub notices : KeyName → ℕ
  -- how many requests are not on the way from another kernel to the owner of their key
  pub misplaced : ℕ

-- What a row still owes, having taken it and not yet put it down.
pub record Obligations : Type 1 where
  -- the children, of what job b of kernel a marks, that the row still answers for
  pub cares : ℕ → ℕ → KeyName → Type 0
  -- how many tokens of job b of kernel a the row has taken
  pub owed : ℕ → ℕ → ℕ
  -- the job of kernel a that has swept all that it marked, its root too
  pub loose : ℕ → ℕ → Type 0

-- nothing
abbrev pub no_obligations : Obligations
no_obligations = record { cares = λ a b k. ⊥; owed = λ a b. 0; loose = λ a b. ⊥ }

abbrev pub one_at : ℕ → ℕ → ℕ → ℕ → ℕ
one_at a b c d = if (a == c) && (b == d) then 1 else 0

-- a token of job b of kernel a
abbrev pub token : ℕ → ℕ → Obligations
token a b = record { cares = λ c d k. ⊥; owed = one_at a b; loose = λ c d. ⊥ }

-- the request for a key that kernel a sent for its job b
abbrev pub request : KeyName → ℕ → ℕ → Obligations
request k0 a b = record { cares = λ c d k. (c ≡ a) × (d ≡ b) × (k ≡ k0); owed = one_at a b; loose = λ c d. ⊥ }

-- the children of what job n of kernel i has just marked
abbrev pub children : ℕ → ℕ → List KeyName → Obligations
children i n ks = record {
  cares = λ c d k. (c ≡ i) × (d ≡ n) × (has_key ks k ≡ true);
  owed = λ c d. 0;
  loose = λ c d. ⊥;
}

-- job n of kernel i, which has swept all that it marked
abbrev pub closing_job : ℕ → ℕ → Obligations
closing_job i n = record { cares = λ c d k. ⊥; owed = λ c d. 0; loose = λ c d. (c ≡ i) × (d ≡ n) }

-- no other job waits for a job that keeps its root
abbrev pub IsAlone : JobRow → Type 0
IsAlone x = x.keep ≡ true → x.up ≡ None

-- G tells the parents by grants, D what is lost. The job has a cause that loses its root, unless it
-- keeps it, and the children of the root.
abbrev pub IsCaused : (KeyName → KeyName → Type 0) → (KeyName → Type 0) → JobRow → Type 0
IsCaused G D x = (x.keep ≡ false → D x.root) × ((k : KeyName) → G x.root k → D k)

-- owner tells the kernel of a key, G which key is the parent of which by a grant, M which keys were
-- made
module _ (owner : KeyName → ℕ) (G : KeyName → KeyName → Type 0) (M : KeyName → Type 0) where
  abbrev pub Alive : View → KeyName → Type 0
  Alive V k = ((c : Capability) × (V.hold k ≡ Some c)) ⊎ (1 ≤ V.gifts k)

  abbrev pub Gone : View → KeyName → Type 0
  Gone V k = (V.hold k ≡ None) × (V.gifts k ≡ 0)

  -- held, and marked by the job
  abbrev pub Marked : View → KeyName → ℕ → Type 0
  Marked V k n = (c : Capability) × (V.hold k ≡ Some c) × (c.mark ≡ Some n)

  -- the parent of k is held by kernel a and marked by its job b
  abbrev pub Under : View → KeyName → ℕ → ℕ → Type 0
  Under V k a b = (p : KeyName) × G p k × (owner p ≡ a) × Marked V p b

  -- the parent is held and has a link to the child
  abbrev pub Leads : View → KeyName → KeyName → Type 0
  Leads V p k = (d : Capability) × (V.hold p ≡ Some d) × (has_key d.children k ≡ true)

  -- a child of what job b of kernel a marks: marked by it too, or asked for, or
  -- one that the row still answers for
  abbrev pub Caught : Obligations → View → ℕ → ℕ → KeyName → Type 0
  Caught h V a b k = ((owner k ≡ a) × Marked V k b) ⊎ ((1 ≤ V.asked k a b) ⊎ h.cares a b k)

  -- a job asks once for a key, and has not yet asked for what the row answers for
  abbrev pub IsSingle : Obligations → View → Type 0
  IsSingle h V = ((k : KeyName) (a b : ℕ) → V.asked k a b ≤ 1) × ((k : KeyName) (a b : ℕ) → h.cares a b k →
      V.asked k a b ≡ 0)

  -- what holds of every world by the layers before this one
  pub record IsFit (V : View) : Type 0 where
    pub links : (p k : KeyName) → Leads V p k → G p k
    pub apart : (k : KeyName) (c : Capability) → V.hold k ≡ Some c → V.gifts k ≡ 0
    pub few : (k : KeyName) → V.gifts k ≤ 1
    pub near : (p k : KeyName) → G p k → owner p ≡ owner k → V.gifts k ≡ 0
    pub made : (k : KeyName) → Alive V k → M k

  -- Revocation, also in the middle of a row.
  pub record Revokes (h : Obligations) (V : View) : Type 0 where
    -- every live key below a parent is linked
    pub linked : (p k : KeyName) → G p k → Alive V k → Leads V p k
    -- marks spread
    pub caught : (p k : KeyName) (d : Capability) (n : ℕ) → V.hold p ≡ Some d → d.mark ≡ Some n →
        has_key d.children k ≡ true → Alive V k → Caught h V (owner p) n k
    -- every requested key is below a mark of the asking job
    pub asking : (k : KeyName) (a b : ℕ) → 1 ≤ V.asked k a b → Under V k a b
    -- a mark is that of an open job: of its root, or of a key below a mark of the same kernel
    pub marks : (k : KeyName) (n : ℕ) → Marked V k n → (x : JobRow) × (V.job (owner k) n ≡ Some x)
        × ((x.root ≡ k) ⊎ Under V k (owner k) n)
    -- the root of a job is held, and the job has marked it
    pub roots : (a n : ℕ) (x : JobRow) → V.job a n ≡ Some x → h.loose a n ⊎ ((owner x.root ≡ a) × Marked V x.root n)
    -- no job waits for one that keeps its root
    pub alone : (a n : ℕ) (x : JobRow) → V.job a n ≡ Some x → IsAlone x
    -- a job counts its tokens
    pub counted : (a b : ℕ) → V.tokens a b + h.owed a b ≡ V.count a b
    -- a job asks once for a key
    pub single : IsSingle h V
    -- what a notice says is true
    pub noticed : (k : KeyName) → 1 ≤ V.notices k → Gone V k × M k
    pub placed : V.misplaced ≡ 0
