-- What a proof keeps of a journal so far ("Histories" in docs/proof.md).
use Rattle.std.specs.Prelude.{ℕ, ◌+◌, ◌==◌, Bool, false, not, ◌&&◌, List, [], ◌∷◌, ◌++◌, filter, flat_map, fold}
use Rattle.std.specs.Prelude.{option_to_list}
use Rattle.std.specs.Option.{option_map_or}
use Rattle.sem_machine.specs.Prelude.{KeyName, Act, Calls, Entry}
use Rattle.sem_machine.specs.Journals.{cut_off}
pub use Rattle.sem_machine.specs.Journals.{ended_by}

pub record History : Type 0 where
  -- the grants: each a parent and its child, in order
  pub grants : List (KeyName × KeyName)
  -- the keys at which revokes and clears began
  pub cuts : List KeyName
  -- the keys that they cut off
  pub cut : List KeyName
  -- the VPEs that have ended
  pub ended : List ℕ
  -- the calls without an answer yet: the VPE and the keys that it cut off
  pub waiting : List (ℕ × List KeyName)
  -- the keys that calls which succeeded cut off
  pub answered : List KeyName
  -- how many entries there are
  pub entries : ℕ

-- before the first entry
abbrev pub no_history : History
no_history = record { grants = []; cuts = []; cut = []; ended = []; waiting = []; answered = []; entries = 0 }

-- what an entry cuts off, given the grants before it
abbrev pub cut_at : List (KeyName × KeyName) → Entry → List KeyName
cut_at gs e = option_map_or (cut_off gs e.detail) e.cut []

-- the call that begins with an act, if one does, and that cuts off these keys
abbrev pub call_by : Act → List KeyName → List (ℕ × List KeyName)
call_by (Calls v) ks = (v, ks) ∷ []
call_by act ks = []

-- whether the entry replies to the VPE, and whether with success
abbrev pub replies_to : Entry → ℕ → Bool
replies_to e v = option_map_or (λ r. r.vpe == v) e.reply false

abbrev pub replies_ok : Entry → Bool
replies_ok e = option_map_or (λ r. r.code == 0) e.reply false

-- the history with one more entry
abbrev pub note : History → Entry → History
note h e = record {
  grants = h.grants ++ option_to_list e.grant;
  cuts = h.cuts ++ option_to_list e.cut;
  cut = h.cut ++ cut_at h.grants e;
  ended = h.ended ++ option_to_list (ended_by e.event.act e.detail);
  waiting = filter (λ w. not (replies_to e w.0)) h.waiting ++ call_by e.event.act (cut_at h.grants e);
  answered = h.answered ++ flat_map (λ w. w.1) (filter (λ w. replies_to e w.0 && replies_ok e) h.waiting);
  entries = h.entries + 1;
}

-- the history of a journal
abbrev pub history : List Entry → History
history J = fold note no_history J
