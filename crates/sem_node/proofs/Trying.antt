-- Places that a kernel gets, and its try of an act within a turn, with the places before and after.
use Rattle.std.proofs.Common.{◌≡◌, ◌≢◌, ℕ, ◌<◌, Bool, true, false, List, [], ◌∷◌, ◌++◌, get_or-set_other, Option}
use Rattle.std.proofs.Common.{Some, None, Result, Ok, Err, refl, sym, ◌∙◌, ap, subst, inl, inr, arith}
use Rattle.std.specs.Prelude.{OnOk, OnErr, IfSome, is_ok, is_some}
use Rattle.sem_msg.specs.declared.event.Act.{Act}
use Rattle.sem_msg.specs.declared.entry.Entry.{Entry}
use Rattle.sem_msg.specs.Setup.{Setup}
use Rattle.sem_msg.specs.Journal.{part}
use Rattle.sem_msg.specs.Fabric.{FabricValue, entered}
use Rattle.sem_msg.proofs.Moves.{part-own}
use Rattle.sem_fabric.specs.Fabrics.{placed}
use Rattle.sem_kernel.specs.KernelValue.{KernelValue}
use Rattle.sem_kernel.specs.Rooms.{only_moves}
use Rattle.sem_kernel.specs.Worlds.{is_passable, CanAct, HasDone, HasReplied, HasNotDone}
use Rattle.sem_kernel.proofs.Peers.{able-below}
use Rattle.sem_kernel.proofs.Doing.{done-placed}
use Rattle.sem_turn.specs.Passes.{has_place, IsWhole, Follows}
use Rattle.sem_node.specs.Stepping.{IsReadyToTry, HasTried, MayGetPlace}
use Rattle.sem_node.proofs.Linked.{done-silent, done-whole}

-- the kernels other than k have the same places as before
abbrev KeepsOthers : ℕ → FabricValue → FabricValue → Type 0
KeepsOthers k f g = (j : ℕ) → j ≢ k → has_place g j ≡ has_place f j

pub placed-whole : (T : Setup) (n : ℕ) (f : FabricValue) → IsWhole T f → IsWhole T (placed n f)
placed-whole T n f whole = record { agrees = whole.agrees; square = whole.square }

pub placed-others : (n : ℕ) (f : FabricValue) → KeepsOthers n f (placed n f)
placed-others n f = λ j apart. get_or-set_other f.places n j true false apart

-- what a place more leaves as it was
module _ (n : ℕ) (f g : FabricValue) where
  pub got-journal : MayGetPlace n f g → g.journal ≡ f.journal
  got-journal (inl got) = ap (λ (x : FabricValue). x.journal) got
  got-journal (inr same) = ap (λ (x : FabricValue). x.journal) same

  pub got-rest : MayGetPlace n f g → g ≡ record f { places = g.places }
  got-rest (inl got) = got ∙ ap (λ (x : FabricValue). record f { places = x.places }) (sym got)
  got-rest (inr same) = same ∙ ap (λ (x : FabricValue). record f { places = x.places }) (sym same)

  pub got-others : MayGetPlace n f g → KeepsOthers n f g
  got-others (inl got) = λ j apart. ap (λ (x : FabricValue). has_place x j) got ∙ placed-others n f j apart
  got-others (inr same) = λ j apart. ap (λ (x : FabricValue). has_place x j) same

  pub got-whole : (T : Setup) → MayGetPlace n f g → IsWhole T f → IsWhole T g
  got-whole T (inl got) whole = subst (IsWhole T) (sym got) (placed-whole T n f whole)
  got-whole T (inr same) whole = subst (IsWhole T) (sym same) whole

-- what became of a place that was asked for
pub may-get : {A E : Type 0} (n : ℕ) (f g : FabricValue) (r : Result A E) → OnOk r (g ≡ placed n f) → OnErr r (g ≡ f) → MayGetPlace n f g
may-get n f g (Ok x) ok err = inl ok
may-get n f g (Err e) ok err = inr err

pub on-ok : {A E : Type 0} (P : Type 0) (r : Result A E) → OnOk r P → is_ok r ≡ true → P
on-ok P (Ok x) ok sure = ok
on-ok P (Err e) ok sure = absurd (cc sure)

-- The entry e of kernel n was entered into the fabric f, which may have got a place then.
module _ (T : Setup) (f x h : FabricValue) (e : Entry) (n : ℕ) (by : e.event.kernel ≡ n) (put : x ≡ entered e f) (got : MayGetPlace n x h) where
  pub entered-journal : h.journal ≡ f.journal ++ e ∷ []
  entered-journal = got-journal n x h got ∙ ap (λ (y : FabricValue). y.journal) put

  pub entered-follows : Follows n f h
  entered-follows = (
    inr (e, by, entered-journal),
    λ j apart. got-others n x h got j apart
        ∙ (ap (λ (y : FabricValue). has_place y j) put ∙ get_or-set_other f.places e.event.kernel j false false (λ is. apart (is ∙ by))),
  )

  pub entered-whole : IsWhole T x → IsWhole T h
  entered-whole whole = got-whole n x h T got whole

  pub entered-part : part h.journal n ≡ part f.journal n ++ e ∷ []
  entered-part = ap (λ (J : List Entry). part J n) entered-journal ∙ part-own f.journal e n by

-- what was done is done in a fabric with other places
done-then : (k : KernelValue) (f : FabricValue) (act : Act) (l : KernelValue) (g h : FabricValue) (e : Entry) → HasDone k f act l g e →
    h ≡ record g { places = h.places } → KeepsOthers k.id g h → HasDone k f act l h e
done-then k f act l g h e done rest others = record {
  input = done.input;
  entry = done.entry;
  kernel = done.kernel;
  sound = done.sound;
  links = ap (λ (x : FabricValue). x.links) rest ∙ done.links;
  journal = ap (λ (x : FabricValue). x.journal) rest ∙ done.journal;
  fabric = record {
    kernels = ap (λ (x : FabricValue). x.kernels) rest ∙ done.fabric.kernels;
    window = ap (λ (x : FabricValue). x.window) rest ∙ done.fabric.window;
    kills = ap (λ (x : FabricValue). x.kills) rest ∙ done.fabric.kills;
  };
  others = λ j apart. others j apart ∙ done.others j apart;
}

module _ (k : KernelValue) (f : FabricValue) (act : Act) (can : IsReadyToTry k f act) where
  -- the kernel is one of the fabric
  pub try-below : (n : ℕ) → n ≡ k.id → n < f.kernels
  try-below n same = let below = able-below k f act can.able in omega (arith, below, same)

  module _ (h : FabricValue) (n : ℕ) (same : n ≡ k.id) (got : h ≡ placed n f) where
    -- with a place, it is ready still
    pub try-placed : IsReadyToTry k h act
    try-placed = record {
      able = subst (λ (x : FabricValue). CanAct k x act) (sym got) (record {
        setup = can.able.setup;
        few = can.able.few;
        sound = can.able.sound;
        fabric = record { kernels = can.able.fabric.kernels; window = can.able.fabric.window; kills = can.able.fabric.kills };
        enabled = can.able.enabled;
      });
      ready = can.ready;
      whole = subst (IsWhole k.setup) (sym got) (placed-whole k.setup n f can.whole);
    }

    others-placed : KeepsOthers k.id f h
    others-placed = λ j apart. ap (λ (x : FabricValue). has_place x j) got ∙ placed-others n f j (λ is. apart (is ∙ same))

    -- what it does then is a try
    pub try-done : (l : KernelValue) (g : FabricValue) (d : Bool) → HasTried d k h act l g → HasTried d k f act l g
    try-done l g true acted = record {
      entry = acted.entry;
      done = done-placed k f act n same l g acted.entry (subst (λ (x : FabricValue). HasDone k x act l g acted.entry) got acted.done);
      silent = acted.silent;
      whole = acted.whole;
    }
    try-done l g false rest = record {
      kernel = rest.kernel;
      whole = rest.whole;
      journal = rest.journal ∙ ap (λ (x : FabricValue). x.journal) got;
      others = λ j apart. rest.others j apart ∙ others-placed j apart;
    }

  -- nothing at all is a try too
  pub try-none : (l : KernelValue) (g : FabricValue) → HasNotDone k f l g → HasTried false k f act l g
  try-none l g none = record {
    kernel = none.kernel;
    whole = subst (IsWhole k.setup) (sym none.fabric) can.whole;
    journal = ap (λ (x : FabricValue). x.journal) none.fabric;
    others = λ j apart. ap (λ (x : FabricValue). has_place x j) none.fabric;
  }

  -- a fetch or a flush that was allowed or not
  pub try-told : only_moves act ≡ true → (l : KernelValue) (g : FabricValue) (o : Option Bool) → is_some o ≡ is_passable f k.id act →
      IfSome o (HasReplied k f act l g) → (o ≡ None → HasNotDone k f l g) → HasTried (is_some o) k f act l g
  try-told moves l g None allowed done not_done = try-none l g (not_done refl)
  try-told moves l g (Some b) allowed done not_done = record {
    entry = done.entry;
    done = done.done;
    silent = done-silent k f can.whole act can.able moves l g done.entry done.done;
    whole = done-whole k f can.whole act can.able moves l g done.entry done.done (sym allowed);
  }

  module _ (l : KernelValue) (g h : FabricValue) where
    -- a kernel that tried is one of the fabric still
    pub tried-below : (n : ℕ) (d : Bool) → n ≡ k.id → HasTried d k f act l g → n < g.kernels
    tried-below n true same done = let few = can.able.few in let kernels = done.whole.agrees.same_kernels in omega (arith, few, kernels, same)
    tried-below n false same rest = let few = can.able.few in let kernels = rest.whole.agrees.same_kernels in omega (arith, few, kernels, same)

    -- a place more is no other try
    pub tried-got : (n : ℕ) (d : Bool) → n ≡ k.id → HasTried d k f act l g → MayGetPlace n g h → HasTried d k f act l h
    tried-got n true same acted got = record {
      entry = acted.entry;
      done = done-then k f act l g h acted.entry acted.done (got-rest n g h got) (λ j apart. got-others n g h got j (λ is. apart (is ∙ same)));
      silent = acted.silent;
      whole = got-whole n g h k.setup got acted.whole;
    }
    tried-got n false same rest got = record {
      kernel = rest.kernel;
      whole = got-whole n g h k.setup got rest.whole;
      journal = got-journal n g h got ∙ rest.journal;
      others = λ j apart. got-others n g h got j (λ is. apart (is ∙ same)) ∙ rest.others j apart;
    }
