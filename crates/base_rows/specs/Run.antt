-- A run of a call by its contract, and a call's values by name. What is proved of a call is stated of its values, as `Draws d → d.out' ≡ d.out`; only the file that
-- names a call's values counts its parameters.
-- Assumes nothing.
use Rattle.std.specs.Prelude.{ℕ, List, ◌≡◌, refl}
use contract.Lifetimes.{Lfts}
use denote.Triple.Clauses.{AtExit}
use borrow.Fn.Kinds.{ParamKind, ResultKind, Out, Dens, ended_of, res_t}

-- a run of a function with the parameters ps and the result r: what it was handed, its answer and its parameters at the end, all as the contract `Post` allows
pub record Run {n : ℕ} (ps : List (ParamKind n)) (r : ResultKind n) (Post : Out n ps r) : Type 0 where
  pub lifetimes : Lfts n
  pub handed : Dens lifetimes ps
  pub answer : (res_t r lifetimes).Denot
  pub left : AtExit (ended_of n ps r) lifetimes
  pub allowed : Post lifetimes handed answer left

-- c holds the values of a run
pub record Ran {R C : Type 0} (values : R → C) (c : C) : Type 0 where
  pub run : R
  pub named : c ≡ values run

-- every run has its values
pub ran : {R C : Type 0} (values : R → C) (run : R) → Ran values (values run)
ran values run = record { run = run; named = refl }
