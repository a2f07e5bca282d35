-- The words for why something failed.
use Rattle.std.specs.Prelude.{ℕ, List, ◌++◌, ◌==◌, if◌then◌else◌, codes, decimal}
use Rattle.log_lines.specs.declared.why.Why.{Why}
use Rattle.log_lines.specs.declared.why.Why.TheVariants as why

-- the system's words for its errors, as Linux numbers them (errno(3))
abbrev pub system_words : ℕ → List ℕ
system_words code =
    if code == 1 then codes "operation not permitted"
    else (if code == 12 then codes "cannot allocate memory"
    else (if code == 13 then codes "permission denied"
    else (if code == 23 then codes "too many open files in system"
    else (if code == 24 then codes "too many open files"
    else (if code == 32 then codes "broken pipe"
    else (if code == 99 then codes "cannot assign requested address"
    else (if code == 100 then codes "network is down"
    else (if code == 101 then codes "network is unreachable"
    else (if code == 103 then codes "software caused connection abort"
    else (if code == 104 then codes "connection reset by peer"
    else (if code == 105 then codes "no buffer space available"
    else (if code == 110 then codes "connection timed out"
    else (if code == 111 then codes "connection refused"
    else (if code == 112 then codes "host is down"
    else (if code == 113 then codes "no route to host"
    else codes "refused by the system")))))))))))))))

abbrev pub why_text : Why → List ℕ
why_text why.Closed = codes "closed by the store"
why_text why.NotFound = codes "host not found"
why_text why.NoAnswer = codes "no answer"
why_text why.Itself = codes "connected to itself"
why_text why.LongLine = codes "ended after a line of more than 16384 bytes"
why_text why.NoReadiness = codes "the system does not report ready sockets"
why_text why.NoMemory = codes "out of memory"
why_text (why.System code) = system_words code ++ codes " (error " ++ decimal code ++ codes ")"
