use Rattle.std.proofs.Common.{◌≡◌, map, take, filter_map}
use Rattle.sem_node.specs.Own.{own_kill}
use Rattle.sem_node.proofs.run.kills_of.Given as goal

-- the kills of the kernel's VPEs among the first ones
abbrev pub invariant-loop-kill : goal.invariant-loop-kill
invariant-loop-kill l = map (λ d. (d.vpe, d.number)) l.kills.items ≡ filter_map (own_kill l.setup l.id) (take l.kill-index l.kill-items)
