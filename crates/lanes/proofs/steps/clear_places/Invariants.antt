use Rattle.lanes.specs.Inside.{PlacesLaid}
use Rattle.lanes.proofs.steps.clear_places.Given as goal

abbrev pub invariant-loop-k : goal.invariant-loop-k
invariant-loop-k l = PlacesLaid l.to l.apart l.k (λ _. 0) l.initial.part l.part
