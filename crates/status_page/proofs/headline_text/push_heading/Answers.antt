use Rattle.std.proofs.Common.{◌≡◌, ◌++◌, List, OnOk, subst}
use Rattle.std.specs.String.{string_bytes}
use Rattle.status_page.specs.declared.headline.Headline.{Headline}
use Rattle.status_page.specs.declared.snapshot.DestSnapshot.{DestSnapshot}
use Rattle.status_page.specs.Headline.{words_in_colour}
use Rattle.status_page.proofs.headline_text.push_heading.Goals as goal

-- the words are those of the worst
pub returns : goal.returns
returns c =
    let after = c.push_words_in_colour in
    let of_dests : OnOk after.result (string_bytes after.new.text ≡ string_bytes c.args.text.now ++ words_in_colour c.args.now.now.dests.items c.headline_of.result)
    = subst (λ (dests : List DestSnapshot). OnOk after.result (string_bytes after.new.text ≡ string_bytes c.args.text.now ++ words_in_colour dests c.headline_of.result))
    c.as_slice.ensures.value after.ensures in
    subst (λ (h : Headline). OnOk after.result (string_bytes after.new.text ≡ string_bytes c.args.text.now ++ words_in_colour c.args.now.now.dests.items h))
    c.headline_of.ensures of_dests
