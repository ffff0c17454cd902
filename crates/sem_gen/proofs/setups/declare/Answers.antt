use Rattle.std.proofs.Common.{◌≡◌, ◌*◌, ap, ◌∙◌, arith}
use Rattle.rand_pcg.specs.Lcg.{advance}
use Rattle.rand_pcg.specs.Pcg.{multiplier_64}
use Rattle.sem_pick.specs.Seeds.{generator_of}
use Rattle.sem_gen.proofs.Drawing.{advance-zero, words-more, vpes-more}
use Rattle.sem_gen.proofs.setups.declare.Goals as goal

pub loop-vpe-init : goal.loop-vpe-init
loop-vpe-init c =
    let none : 0 ≡ 0 * c.args.calls = omega arith in
    record {
      words = c.new-words.ensures ∙ (advance-zero (generator_of c.args.seed) ∙ ap (λ n. advance 64 multiplier_64 n (generator_of c.args.seed)) none);
      list = c.new-list.ensures;
    }

pub loop-vpe-preserved : goal.loop-vpe-preserved
loop-vpe-preserved c =
    let l = c.loop-vpe in
    let g = generator_of c.args.seed in
    record {
      words = words-more g l.words c.draw_calls.new.words l.vpe c.args.calls l.invariant.words c.in_ok-draw_calls.ensures.words;
      list = vpes-more c.args.seed c.args.vpes c.args.calls l.vpe l.words l.list c.push.new.self c.in_ok-roots_of.field-0 c.in_ok-draw_calls.field-0
          l.invariant.words l.invariant.list c.in_ok-roots_of.ensures c.in_ok-draw_calls.ensures.calls c.in_ok-push.ensures.ok;
    }
