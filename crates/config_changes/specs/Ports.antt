-- The ports of receivers that change.
use Rattle.std.specs.Prelude.{ℕ, Bool, true, false, List, not, ◌==◌, if◌then◌else◌}
use Rattle.std.specs.Str.{bytes_eq}
use Rattle.conf_text.specs.SettingsTable.{ReceivingValues}

-- at which port the receiver of datagrams listens: at none without ENABLE_UDP_LISTENER
abbrev pub datagram_port : ReceivingValues → ℕ
datagram_port values = if values.enable_udp_listener then values.udp_receiver_port else 0

-- whether receivers listen somewhere else: at another port, or at another interface, unless they listen nowhere
abbrev pub has_moved : (old_interface new_interface : List ℕ) → (old_port new_port : ℕ) → Bool
has_moved old_interface new_interface old_port new_port =
    if old_port == new_port
    then (if old_port == 0 then false else not (bytes_eq old_interface new_interface))
    else true
