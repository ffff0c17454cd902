use Rattle.std.proofs.Common.{◌≡◌, rules}
use Rattle.rand_pcg.specs.Pcg.{pcg32}
use Rattle.sem_gen.proofs.Drawing.{advance-zero, advance-one, word-here, drawn-more}
use Rattle.sem_gen.proofs.calls.draw_calls.Goals as goal

pub loop-place-init : goal.loop-place-init
loop-place-init c = record { words = advance-zero c.args.words.now; list = c.new-list.ensures }

pub loop-place-preserved : goal.loop-place-preserved
loop-place-preserved c =
    let g = c.args.words.now in
    let l = c.loop-place in
    let stepped : c.next_word.new.self ≡ (pcg32 l.words).1 = search rules in
    let word : c.next_word.result ≡ (pcg32 l.words).0 = search rules in
    record {
      words = advance-one g l.words c.next_word.new.self l._place l.invariant.words stepped;
      list = drawn-more g c.args.vpes l._place c.next_word.result l.list c.push.new.self c.call_of.result l.invariant.list c.in_ok-push.ensures.ok
          c.call_of.ensures (rw word (word-here g l.words l._place l.invariant.words));
    }
