use Rattle.std.proofs.Common.{◌≡◌, take, map}
use Rattle.std.specs.List.{range_with_len}
use Rattle.sem_chart.proofs.rows.chart_rows.Given as goal

-- the first entries have their rows
abbrev pub invariant-loop-place : goal.invariant-loop-place
invariant-loop-place l = (map (λ r. r.number) l.rows.items ≡ range_with_len l.from l.place) × (map (λ r. r.entry) l.rows.items ≡ take l.place l.shown)
