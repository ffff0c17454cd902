use Rattle.std.proofs.Common.{◌≡◌, ◌<◌, true, false, length, get_or, arith, ap, sym, ◌∙◌, length-set}
use Rattle.std.specs.Option.{is_some}
use Rattle.std.proofs.lemmas.List.{length_push}
use Rattle.sem_msg.specs.Journal.{replies}
use Rattle.sem_fabric.proofs.Entries.{counts, replies-more, replies-few, places-less}
use Rattle.sem_fabric.proofs.fabric.Fabric.enter.Goals as goal

-- the replies are no more than the entries, and these are countable
pub overflow_add-self : goal.overflow_add-self
overflow_add-self c =
    let J = c.self.inside.journal.entries in
    let few = replies-few J in
    let long = length_push J c.args.entry in
    let same = ap length c.push.ensures.entries in
    let count = c.self.invariant.4 in
    omega (arith, few, long, same, count, c.push.ensures.length)

pub invariant_of-self : goal.invariant_of-self
invariant_of-self c =
    let places = c.self.inside.places.items in
    let i = c.args.entry.event.kernel in
    let within : i < length places = let kernel = rw (← c.self.view_is) at c.requires.kernel in let long = c.self.invariant.2 in omega (arith, kernel, long) in
    let here : get_or places i false ≡ true = rw (← c.self.view_is) at c.requires.place in
    let less = places-less places i within here in
    let more = replies-more c.self.inside.journal.entries c.args.entry in
    let one : counts (is_some c.args.entry.reply) ≡ 1 = ap counts (sym c.is_some.ensures ∙ c.if-is_some.true) in (
      c.self.invariant.0,
      c.self.invariant.1,
      length-set places i false ∙ c.self.invariant.2,
      omega (arith, less, c.self.invariant.3, c.push.ensures.spare),
      let now = ap (λ J. length (replies J)) c.push.ensures.entries in let before = c.self.invariant.4 in omega (arith, now, more, one, before),
      c.self.invariant.5,
    )

pub invariant_of-self-else-is_some : goal.invariant_of-self-else-is_some
invariant_of-self-else-is_some c =
    let places = c.self.inside.places.items in
    let i = c.args.entry.event.kernel in
    let within : i < length places = let kernel = rw (← c.self.view_is) at c.requires.kernel in let long = c.self.invariant.2 in omega (arith, kernel, long) in
    let here : get_or places i false ≡ true = rw (← c.self.view_is) at c.requires.place in
    let less = places-less places i within here in
    let more = replies-more c.self.inside.journal.entries c.args.entry in
    let none : counts (is_some c.args.entry.reply) ≡ 0 = ap counts (sym c.is_some.ensures ∙ c.if-is_some.false) in (
      c.self.invariant.0,
      c.self.invariant.1,
      length-set places i false ∙ c.self.invariant.2,
      omega (arith, less, c.self.invariant.3, c.push.ensures.spare),
      let now = ap (λ J. length (replies J)) c.push.ensures.entries in let before = c.self.invariant.4 in omega (arith, now, more, none, before),
      c.self.invariant.5,
    )
