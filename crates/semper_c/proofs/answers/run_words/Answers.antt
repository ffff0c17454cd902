use Rattle.std.proofs.Common.{rules, ◌≡◌, [], ◌∷◌}
use Rattle.semper_c.proofs.Telling.{run-asked}
use Rattle.semper_c.proofs.answers.run_words.Goals as goal

-- the words are read as the run by that seed
pub returns : goal.returns
returns c =
    let first = c.in_ok-from_str.field-0 in
    let second = c.in_ok-to_string.field-0 in
    let items : c.push-2.new.self.items ≡ first ∷ second ∷ [] = search rules in
    run-asked c.push-2.new.self.items first second c.args.seed items c.in_ok-from_str.ensures.ok c.in_ok-to_string.ensures.ok c.ranges.seed.fits
