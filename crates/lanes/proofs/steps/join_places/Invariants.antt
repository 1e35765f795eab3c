use Prim.Native.Nat.{◌+◌, ◌*◌}
use lib.ListN.{get_or}
use Rattle.lanes.specs.Inside.{PlacesMade}
use Rattle.lanes.proofs.steps.join_places.Given as goal

abbrev pub invariant-loop-k : goal.invariant-loop-k
invariant-loop-k g l =
    PlacesMade l.to l.apart l.k (λ k v. goal.F-post g l.step (get_or l.initial.part (l.to + k * l.apart) 0) (get_or l.initial.part (l.from + k * l.apart) 0) v)
    l.initial.part l.part
