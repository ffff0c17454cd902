-- A kernel's step within a turn: what it asks, and what the pass and the cell have afterwards.
use Rattle.std.proofs.Common.{◌≡◌, ℕ, ◌<◌, ◌&&◌, Bool, true, false, List, [], ◌∷◌, ◌++◌, Option, None, Some, sym, ◌∙◌, ap, subst, inl, inr}
use Rattle.std.specs.Prelude.{MatchBool, is_some}
use Rattle.std.specs.Option.{IsSomeAnd}
use Rattle.sem_msg.specs.declared.event.Act.{Act}
use Rattle.sem_msg.specs.declared.entry.Entry.{Entry}
use Rattle.sem_msg.specs.declared.entry.Reply.{Reply}
use Rattle.sem_msg.specs.Setup.{Setup, IsSetup}
use Rattle.sem_msg.specs.Journal.{part}
use Rattle.sem_msg.specs.Fabric.{FabricValue}
use Rattle.sem_msg.proofs.Moves.{part-own}
use Rattle.sem_machine.specs.Sound.{IsSound}
use Rattle.sem_machine.specs.Machine.{is_locally_enabled}
use Rattle.sem_kernel.specs.KernelValue.{KernelValue, is_timely}
use Rattle.sem_kernel.specs.Worlds.{taken, IsFabricOf, HasDone}
use Rattle.sem_turn.specs.Passes.{PassValue, has_place, IsWhole, Follows}
use Rattle.sem_parts.specs.Parts.{RunsTo}
use Rattle.sem_node.specs.Running.{HasRun}
use Rattle.sem_node.specs.Stepping.{IsReadyToTry, HasTried, HasActed, HasRested}
use Rattle.sem_node.specs.Telling.{HasOneMore}
use Rattle.sem_node.proofs.Stepping.{run-roomed, run-readied, enabled-roomed, made-kernel, made-act, run-goes-on}

-- a pass with the same kernel and entries tells the same run
run-same : (T : Setup) (k : KernelValue) (p q : PassValue) → HasRun T k p → q.kernel ≡ p.kernel → q.entries ≡ p.entries → HasRun T k q
run-same T k p q run kernel entries = record {
  valid = run.valid;
  setup = run.setup;
  id = run.id ∙ sym kernel;
  few = run.few;
  runs = subst (λ (L : List Entry). RunsTo T k.id L k.side) (sym entries) run.runs;
  sound = run.sound;
}

-- The kernel k, with the pass p, was told that the act is enabled, and has room as r; the pass holds the turn as u, with the fabric f.
module _ (T : Setup) (k r : KernelValue) (p u : PassValue) (act : Act) (n : ℕ) (b : Bool) (f : FabricValue)
    (run : HasRun T k p) (told : b ≡ (is_locally_enabled k.setup k.id k.side act && is_timely k.setup n act)) (on : b ≡ true)
    (roomed : r ≡ record k { ready = Some act }) (took : u ≡ record p { taken = Some f }) (entries : p.entries ≡ part f.journal p.kernel)
    (whole : IsWhole T f) where
  now : HasRun T r p
  now = run-roomed T k r p act run roomed

  able : is_locally_enabled r.setup r.id r.side act ≡ true
  able = enabled-roomed k r act n roomed (sym told ∙ on)

  u-kernel : u.kernel ≡ p.kernel
  u-kernel = ap (λ (x : PassValue). x.kernel) took

  id-kernel : r.id ≡ u.kernel
  id-kernel = now.id ∙ sym u-kernel

  -- so it can try
  pub can-try : IsReadyToTry r f act
  can-try = record {
    able = record {
      setup = subst IsSetup (sym now.setup) now.valid;
      few = subst (λ (S : Setup). r.id < S.kernels) (sym now.setup) now.few;
      sound = subst (λ (S : Setup). IsSound S r.id r.side) (sym now.setup) now.sound;
      fabric = subst (λ (S : Setup). IsFabricOf S f) (sym now.setup) (record {
        kernels = whole.agrees.same_kernels;
        window = whole.agrees.same_window;
        kills = whole.agrees.same_kills;
      });
      enabled = able;
    };
    ready = ap (λ (x : KernelValue). x.ready) roomed;
    whole = subst (λ (S : Setup). IsWhole S f) (sym now.setup) whole;
  }

  module _ (l : KernelValue) (e : Entry) (g : FabricValue) (done : HasDone r f act l g e) where
    by : e.event.kernel ≡ p.kernel
    by = made-kernel T r l p act (taken f r.id act) e now able done.input done.entry done.kernel

    tells : e.event.act ≡ act
    tells = made-act T r l p act (taken f r.id act) e now able done.input done.entry done.kernel

    goes-on : (q : PassValue) → q.kernel ≡ p.kernel → q.entries ≡ p.entries ++ e ∷ [] → HasRun T l q
    goes-on = run-goes-on T r l p act (taken f r.id act) e now able done.input done.entry done.kernel

  module _ (l : KernelValue) (g : FabricValue) where
    follows : (d : Bool) → HasTried d r f act l g → Follows u.kernel f g
    follows true acted = (
      inr (acted.entry, by l acted.entry g acted.done ∙ sym u-kernel, acted.done.journal),
      λ j apart. acted.done.others j (λ is. apart (is ∙ id-kernel)),
    )
    follows false rest = (inl rest.journal, λ j apart. rest.others j (λ is. apart (is ∙ id-kernel)))

    -- the fabric follows the one that was taken
    pub held-on : (d : Bool) → HasTried d r f act l g → IsSomeAnd u.taken (λ x. Follows u.kernel x g)
    held-on d tried = subst (λ (o : Option FabricValue). IsSomeAnd o (λ x. Follows u.kernel x g)) (sym (ap (λ (x : PassValue). x.taken) took)) (follows d tried)

    -- and is whole
    pub whole-on : (d : Bool) → HasTried d r f act l g → IsWhole T g
    whole-on true done = subst (λ (S : Setup). IsWhole S g) now.setup done.whole
    whole-on false rest = subst (λ (S : Setup). IsWhole S g) now.setup rest.whole

    old : part f.journal u.kernel ≡ p.entries
    old = ap (λ m. part f.journal m) u-kernel ∙ sym entries

    module _ (q : PassValue) (back : q ≡ record u { entries = part g.journal u.kernel; placed = has_place g u.kernel; taken = None }) where
      pushed-on : (acted : HasActed r f act l g) → q.entries ≡ p.entries ++ acted.entry ∷ []
      pushed-on acted =
          ap (λ (x : PassValue). x.entries) back
          ∙ (ap (λ (J : List Entry). part J u.kernel) acted.done.journal
          ∙ (part-own f.journal acted.entry u.kernel (by l acted.entry g acted.done ∙ sym u-kernel) ∙ ap (λ (L : List Entry). L ++ acted.entry ∷ []) old))

      kept-on : HasRested r f l g → q.entries ≡ p.entries
      kept-on rest = ap (λ (x : PassValue). x.entries) back ∙ (ap (λ (J : List Entry). part J u.kernel) rest.journal ∙ old)

      -- once it is given back, the pass has one more entry, or none
      pub told-on : (d : Bool) → HasTried d r f act l g → MatchBool d (HasOneMore act false p.entries q.entries) (q.entries ≡ p.entries)
      told-on true acted = record {
        entry = acted.entry;
        came = pushed-on acted;
        tells = tells l acted.entry g acted.done;
        reply = ap (λ (o : Option Reply). is_some o) acted.silent;
      }
      told-on false rest = kept-on rest

    -- and tells the run
    run-on : (q : PassValue) (d : Bool) → HasTried d r f act l g → q ≡ record u { entries = part g.journal u.kernel; placed = has_place g u.kernel; taken = None } →
        HasRun T l q
    run-on q true acted back =
        goes-on l acted.entry g acted.done q (ap (λ (x : PassValue). x.kernel) back ∙ u-kernel) (pushed-on q back acted)
    run-on q false rest back =
        run-readied T r l q rest.kernel (run-same T r p q now (ap (λ (x : PassValue). x.kernel) back ∙ u-kernel) (kept-on q back rest))

    -- which is free, and has the place that the turn showed
    pub cell-on : (q : PassValue) (b d : Bool) → HasTried d r f act l g →
        q ≡ record u { entries = part g.journal u.kernel; placed = has_place g u.kernel; taken = None }
        → (b ≡ true → has_place g r.id ≡ true) → HasRun T l q × (q.taken ≡ None) × (b ≡ true → q.placed ≡ true)
    cell-on q b d tried back shown = (
      run-on q d tried back,
      ap (λ (x : PassValue). x.taken) back,
      λ on. ap (λ (x : PassValue). x.placed) back ∙ (ap (λ m. has_place g m) (sym id-kernel) ∙ shown on),
    )
