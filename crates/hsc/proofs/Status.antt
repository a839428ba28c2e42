-- A status gives back its number in bits 0 to 15, the trace that it names in bits 16 to 31 and its place in bits 32 to 63.
use mathlib.Core.Path.{◌≡◌}
use Prim.Native.Nat.{ℕ, ◌/◌, ◌%◌, ◌^◌, ◌<◌}
use native.Mathlib.Omega.{arith}
use Rattle.refusal.specs.Refusals.{refused_in, status_of}

module _ (number trace place : ℕ) (h : number < 2 ^ 16) (k : trace < 2 ^ 16) where
  pub status-number : status_of {A = Unit} (refused_in number trace place) % 2 ^ 16 ≡ number
  status-number = omega arith

  pub status-trace : status_of {A = Unit} (refused_in number trace place) / 2 ^ 16 % 2 ^ 16 ≡ trace
  status-trace = omega arith

  pub status-place : status_of {A = Unit} (refused_in number trace place) / 2 ^ 32 ≡ place
  status-place = omega arith
