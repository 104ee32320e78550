-- The ranges of what a call may say.
use Rattle.std.specs.Prelude.{ℕ, Bool, ◌&&◌, nat_le}

-- both ends are inside
abbrev pub within : ℕ → ℕ → ℕ → Bool
within low high n = nat_le low n && nat_le n high

-- a price in whole steps
abbrev pub is_price : ℕ → Bool
is_price n = within 1 9999999 n

-- a size in whole lots
abbrev pub is_size : ℕ → Bool
is_size n = within 1 1000000 n

-- a member's number
abbrev pub is_owner : ℕ → Bool
is_owner n = within 1 65535 n

-- a maker's number: there are sixteen
abbrev pub is_maker : ℕ → Bool
is_maker n = within 1 16 n
