use Rattle.std.proofs.Common.{◌≡◌, Global, sym, rules}
use Rattle.std.specs.Option.{option_map, option_copied}
use Rattle.std.specs.String.{string_bytes}
use Rattle.conf_text.proofs.Destinations.{is_destination}
use Rattle.conf_text.proofs.dest.Dest.read.Goals as goal
use Rattle.conf_text.proofs.dest.Dest.read.Goals.{in-Some-instance+in_ok-from_str-in-Some-instance, in-None}

pub invariant_of-result : goal.invariant_of-result
invariant_of-result c =
    let same : option_map (string_bytes {Z = Global}) c.match-parts.instance ≡ option_copied c.in-Some.parts.instance =
    elim c.match-parts.branch [ in-Some-instance+in_ok-from_str-in-Some-instance w ↦ search rules | in-None w ↦ search rules ] in
    rw (c.in_ok-host.ensures.ok, same) (is_destination c.args.text.now _ (sym c.in-Some.ensures))
