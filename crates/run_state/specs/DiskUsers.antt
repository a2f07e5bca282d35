-- The threads that use the disk, a bit each.
use Rattle.std.specs.Prelude.{ℕ, ◌^◌, nat_lt, if◌then◌else◌}
use Rattle.run_state.specs.declared.disk_users.DiskUser.{DiskUser}
use Rattle.run_state.specs.declared.disk_users.DiskUser.TheVariants.{Sender, Parting, Keeper}

-- the senders come first, of which there are 8 at most
abbrev pub bit_of_user : DiskUser → ℕ
bit_of_user (Sender number) = if nat_lt number 8 then 2 ^ number else 0
bit_of_user Parting = 256
bit_of_user Keeper = 512
