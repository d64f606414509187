use Rattle.std.proofs.Common.{◌≡◌, ℕ, ap, sym, ◌∙◌}
use Rattle.inet_num.specs.Net.{Address}
use Rattle.ipam_data.specs.Hosts.{Masked}
use Rattle.stored_tables.specs.Stored.{host_text}
use Rattle.stored_tables.proofs.HostTexts.{no_canonical_host}
use Rattle.stored_tables.proofs.columns.host_if_written.Goals as goal

pub returns-else-eq : goal.returns-else-eq
returns-else-eq c = λ h m e.
    let a : c.addr.result ≡ c.args.addr = c.addr.ensures.addr ∙ ap (λ (v : Masked). v.addr) c.in-Some.ensures.some in
    let l : c.len.result ≡ c.args.len = c.len.ensures.len ∙ ap (λ (v : Masked). v.len) c.in-Some.ensures.some in
    no_canonical_host c.args.text.now c.as_str-2.result.now c.as_str.result.now c.args.addr c.args.len h c.as_str-2.ensures c.requires m e
    (c.as_str.ensures.value ∙ c.host_text-written.ensures ∙ ap (λ (v : Address). host_text v c.len.result) a ∙ ap (λ (v : ℕ). host_text c.args.addr v) l)
    (sym c.eq.ensures ∙ c.if-eq.false)
