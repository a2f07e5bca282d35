use Rattle.std.proofs.Common.{◌≡◌, ◌++◌, take, flat_map, string_bytes}
use Rattle.status_page.specs.Json.{next_one, sample_json}
use Rattle.status_page.proofs.json.push_other_samples.Given as goal

-- the samples before this one are there
abbrev pub invariant-loop-sample : goal.invariant-loop-sample
invariant-loop-sample l = string_bytes l.text ≡ string_bytes l.initial.text ++ flat_map (next_one sample_json) (take l.sample-index l.samples)
