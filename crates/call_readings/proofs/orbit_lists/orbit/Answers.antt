-- `orbit` meets its contract: the numbers of all graphs that complementations reach from one, at the start of the list,
-- and how many there are.
use mathlib.Core.Path.{ap, refl, subst, sym, ◌∙◌}
use Prim.Native.Nat.{◌<◌}
use lib.ListN.{length}
use Rattle.buffers.specs.Buffers.{written}
use Rattle.orbits.proofs.GraphNumbers.{number_lt}
use Rattle.orbits.specs.Numbers.{graph_count}
use Rattle.orbits.specs.Orbits.{orbit_list}
use Rattle.calls.proofs.AcceptedGraphs.{accepted-graph}
use Rattle.buffers.proofs.Calling.{done, refused}
use Rattle.buffers.proofs.RefusalLaws.{passed_on}
use Rattle.call_readings.proofs.orbit_lists.orbit.Goals as goal

pub returns-in_err-orbit_refusal : goal.returns-in_err-orbit_refusal
returns-in_err-orbit_refusal c =
    let R = passed_on _ _ c.from_residual.ensures.1 c.in_err-orbit_refusal.ensures in
    refused _ R.0 R.1 (refl, (refl, tt))

pub graph_number-start-requires : goal.graph_number-start-requires
graph_number-start-requires c =
    let a = c.args in
    let A = accepted-graph a.n a.neighbours.now a.list.now (sym c.in_ok-orbit_refusal.ensures)
    in
    (A.positive, A.few, A.words)

pub write_orbit-requires : goal.write_orbit-requires
write_orbit-requires c =
    let a = c.args in
    let A = accepted-graph a.n a.neighbours.now a.list.now
    (sym c.in_ok-orbit_refusal.ensures) in (
      A.positive,
      A.few,
      subst (λ g. g < graph_count a.n) (sym c.graph_number-start.ensures) (number_lt a.n _),
      A.places,
    )

pub returns : goal.returns
returns c =
    let a = c.args in
    done _ c.in_ok-orbit_refusal.ensures refl (
      c.write_orbit.ensures.0 ∙ ap (λ g. written (orbit_list a.n g) a.list.now) c.graph_number-start.ensures,
      (c.write_orbit.ensures.1 ∙ ap (λ g. length (orbit_list a.n g)) c.graph_number-start.ensures, tt),
    )
