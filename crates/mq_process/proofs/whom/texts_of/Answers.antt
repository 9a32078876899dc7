use Rattle.std.proofs.Common.{[], ap, map, string_bytes, subst, sym, take, ◌++◌, ◌∙◌, ◌∷◌, ◌≡◌, List, ℕ}
use Rattle.std.proofs.lemmas.List.{map-append, take_more}
use Rattle.std.specs.Net.Text.{socket_text}
use Rattle.std.specs.declared.net.SocketAddr.{SocketAddr}
use Rattle.mq_process.specs.Refusals.{HasNoAddress}
use Rattle.mq_process.proofs.ServerSteps.{more_addresses}
use Rattle.mq_process.proofs.whom.texts_of.Goals as goal

pub loop-server-preserved : goal.loop-server-preserved
loop-server-preserved g c =
    let servers = c.args.servers.now in
    let at = c.loop-server.server-index in
    let so_far = c.loop-server.texts.items in
    let text = string_bytes c.in_ok-text_of_address.field-0 in
    let more : map string_bytes c.push.new.self.items ≡ map string_bytes so_far ++ text ∷ [] = ap (map string_bytes) c.in_ok-push.ensures.items ∙ map-append _ _ _ in
    record {
      texts = more ∙ ap (λ l. l ++ text ∷ []) c.loop-server.invariant.texts ∙ ap (λ (t : List ℕ). map socket_text (take at servers) ++ t ∷ []) c.in_ok-text_of_address.ensures.text
          ∙ sym (ap (map socket_text) (take_more servers at _ c.loop-server-test.true) ∙ map-append _ _ _);
      addresses = subst (λ l. HasNoAddress l → ⊥) (sym more) (more_addresses (map string_bytes so_far) text c.loop-server.invariant.addresses c.in_ok-text_of_address.ensures.address);
    }
