use Rattle.std.proofs.Common.{◌++◌, ap, ◌∙◌}
use Rattle.std.specs.Prelude.{codes}
use Rattle.std.specs.String.{string_bytes}
use Rattle.status_page.specs.Plain.{plain_text}
use Rattle.status_page.specs.Json.{member, configuration_json, head_json, dest_list, receiver_list, producer_list, other_producers_json, sample_list, status_json}
use Rattle.status_page.proofs.Lists.{also, last}
use Rattle.status_page.proofs.json.push_json.Goals as goal

pub returns : goal.returns
unfolding status_json
returns c =
    also c.push_str.result (string_bytes c.args.text.now) (head_json c.args.now.now) _ _ _ c.in_ok-push_head.ensures (
    also c.push_str.result (string_bytes c.push_head.new.text) (dest_list c.args.now.now.dests.items) _ _ _ (c.in_ok-push_dest_list.ensures ∙ ap (λ x. string_bytes c.push_head.new.text ++ dest_list x) c.as_slice.ensures.value) (
    also c.push_str.result (string_bytes c.push_dest_list.new.text) (receiver_list c.args.now.now.receivers.items) _ _ _ (c.in_ok-push_receiver_list.ensures ∙ ap (λ x. string_bytes c.push_dest_list.new.text ++ receiver_list x) c.as_slice-2.ensures.value) (
    also c.push_str.result (string_bytes c.push_receiver_list.new.text) (member (codes "sample_seconds") c.args.now.now.sample_seconds) _ _ _ c.in_ok-push_member.ensures (
    also c.push_str.result (string_bytes c.push_member.new.text) (sample_list c.args.now.now.samples.items) _ _ _ (c.in_ok-push_sample_list.ensures ∙ ap (λ x. string_bytes c.push_member.new.text ++ sample_list x) c.as_slice-3.ensures.value) (
    also c.push_str.result (string_bytes c.push_sample_list.new.text) (configuration_json (plain_text (string_bytes c.args.now.now.configuration))) _ _ _ (c.in_ok-push_configuration.ensures ∙ ap (λ x. string_bytes c.push_sample_list.new.text ++ configuration_json x) (c.plain.ensures ∙ ap plain_text c.as_str.ensures.value)) (
    also c.push_str.result (string_bytes c.push_configuration.new.text) (producer_list c.args.now.now.producers.items) _ _ _ (c.in_ok-push_producer_list.ensures ∙ ap (λ x. string_bytes c.push_configuration.new.text ++ producer_list x) c.as_slice-4.ensures.value) (
    also c.push_str.result (string_bytes c.push_producer_list.new.text) (other_producers_json c.args.now.now.other_producers) _ _ _ c.in_ok-push_other_producers.ensures (
    last c.push_str.result (string_bytes c.push_other_producers.new.text) (codes "}\n") _ c.push_str.ensures.bytes))))))))
