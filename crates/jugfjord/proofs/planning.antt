-- What the proofs of the C functions that plan share.
mod HeldDisks
mod PlanWalk
