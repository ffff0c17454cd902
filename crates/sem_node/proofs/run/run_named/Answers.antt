use Rattle.std.proofs.Common.{◌≡◌, List, length, arith, sym, ◌∙◌, ap, subst}
use Rattle.std.proofs.lemmas.List.FromFn.{length-map-range_with_len}
use Rattle.sem_msg.specs.Setup.{Setup, IsSetup}
use Rattle.sem_kernel.specs.KernelValue.{KernelValue}
use Rattle.sem_kernel.specs.Worlds.{booted}
use Rattle.sem_node.specs.Ending.{HaveRun}
use Rattle.sem_node.proofs.Zips.{starts, starts_free}
use Rattle.sem_node.proofs.Gathered.{gathered}
use Rattle.sem_node.proofs.run.run_named.Goals as goal

pub nodes_of-requires-clause-run : goal.nodes_of-requires-clause-run
nodes_of-requires-clause-run g c =
    let valid : IsSetup c.args.setup.now = c.keeps_its_rules.ensures in
    let same : c.args.setup.now ≡ g.N.RunName.setup = sym c.requires.setup ∙ c.requires.named.1 in
    starts c.args.setup.now g.N.RunName.setup _ _ valid same c.requires.booted c.in_ok-passes.ensures

pub nodes_of-requires-clause-free : goal.nodes_of-requires-clause-free
nodes_of-requires-clause-free g c = starts_free g.N.RunName.setup.kernels _ c.in_ok-passes.ensures

pub close-fabric-requires-clause-count : goal.close-fabric-requires-clause-count
close-fabric-requires-clause-count g c =
    let same : c.args.setup.now ≡ g.N.RunName.setup = sym c.requires.setup ∙ c.requires.named.1 in
    let many = ap (λ (ks : List KernelValue). length ks) c.requires.booted ∙ length-map-range_with_len (booted c.args.setup.now) 0 c.args.setup.now.kernels in
    let kernels = ap (λ (S : Setup). S.kernels) same in
    omega (arith, many, kernels, c.args.kernels.ok.0, c.in_ok-kernels.ensures.count, c.as_slice.ensures.len, c.in_ok-nodes.ensures)

pub returns : goal.returns
returns g c =
    let same : c.args.setup.now ≡ g.N.RunName.setup = sym c.requires.setup ∙ c.requires.named.1 in
    let many = ap (λ (ks : List KernelValue). length ks) c.requires.booted ∙ length-map-range_with_len (booted c.args.setup.now) 0 c.args.setup.now.kernels in
    let kernels = ap (λ (S : Setup). S.kernels) same in
    let count : length c.in_ok-kernels.passes ≡ g.N.RunName.setup.kernels = omega (
      arith,
      many,
      kernels,
      c.args.kernels.ok.0,
      c.in_ok-kernels.ensures.count,
      c.as_slice.ensures.len,
      c.in_ok-nodes.ensures,
    ) in
    let e = c.close-fabric.ensures in
    subst (λ (S : Setup). HaveRun S c.put_in_order.new.kernels.items c.close-fabric.result) (sym same)
    (gathered g.N.RunName.setup _ _ _ c.close-fabric.result c.in_ok-kernels.ensures.run count e.whole e.parts e.once c.put_in_order.ensures.same
    c.put_in_order.ensures.order)
