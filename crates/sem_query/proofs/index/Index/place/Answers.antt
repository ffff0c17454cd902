use Rattle.std.proofs.Common.{rules}
use Rattle.std.proofs.lemmas.List.Sorted.{answers_always}
use Rattle.sem_key.specs.KeyName.{packed}
use Rattle.sem_query.specs.Lives.{KeyLife}
use Rattle.sem_query.proofs.Searching.{searched}
use Rattle.sem_query.proofs.index.Index.place.Goals as goal

-- the closure packs the key of a life, and the slice is the list of lives
pub returns : goal.returns
returns c =
    let facts = c.binary_search_by_key.ensures in
    let by_word = facts.position (λ (l : KeyLife). packed l.key) (answers_always _ _ _ (λ f a r g called. search rules)) in
    let parts = searched _ (rw c.deref.ensures.value c.self.invariant) c.args.key c.pack.ensures.valid _ facts.bound (rw c.pack.ensures.word at by_word) in
    record {
      found = rw (← c.self.view_is, ← c.deref.ensures.value) parts.found;
      absent = rw (← c.self.view_is, ← c.deref.ensures.value) parts.absent;
      lives = rw (← c.self.view_is) c.self.invariant;
    }
