use Rattle.std.proofs.Common.{◌≡◌, Ok, Err, Bool, false, true, cond, List, ℕ, Result, ap, sym, ◌∙◌}
use Rattle.std.specs.Str.{is_utf8}
use Rattle.std.proofs.lemmas.Bool.{false_from_ne_true}
use Rattle.std.proofs.lemmas.Str.{IsUtf8-from_is_utf8, is_utf8-from_IsUtf8}
use Rattle.relay_files.specs.declared.fault.RelayFault.{RelayFault}
use Rattle.relay_files.specs.declared.fault.RelayFault.TheVariants.{NotText}
use Rattle.relay_files.proofs.configuration.text_in.Goals as goal

pub returns-in-Ok-clause-ok : goal.returns-in-Ok-clause-ok
returns-in-Ok-clause-ok c =
    let bytes = c.args.bytes.now in
    let text : is_utf8 bytes ≡ true = is_utf8-from_IsUtf8 bytes c.in-Ok.ensures.cases.1 in
    let read : Result (List ℕ) RelayFault = Ok bytes in
    ap (λ (b : Bool). cond b read (Err (NotText c.args.role))) text
    ∙ ap (λ (t : List ℕ). let r : Result (List ℕ) RelayFault = Ok t in r) (sym c.in-Ok.ensures.cases.0)

pub returns-in-Err-clause-err : goal.returns-in-Err-clause-err
returns-in-Err-clause-err c =
    let bytes = c.args.bytes.now in
    let none : is_utf8 bytes ≡ false = false_from_ne_true (is_utf8 bytes) (λ is. c.in-Err.ensures.cases.0 (IsUtf8-from_is_utf8 bytes is)) in
    let read : Result (List ℕ) RelayFault = Ok bytes in
    ap (λ (b : Bool). cond b read (Err (NotText c.args.role))) none
