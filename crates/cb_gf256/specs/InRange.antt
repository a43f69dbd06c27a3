use Rattle.std.specs.Prelude.{ℕ, ◌≤◌}

-- the codes that are built: k data rows, 1 to 16, and r parities, 1 to 4
pub record IsInRange (k r : ℕ) : Type 0 where
  pub data_least : 1 ≤ k
  pub data_most : k ≤ 16
  pub parities_least : 1 ≤ r
  pub parities_most : r ≤ 4
