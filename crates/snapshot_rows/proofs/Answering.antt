-- A reply by the VRFs, or by the prefixes, of two lists is one by the lists.
use Rattle.std.proofs.Common.{◌≡◌, List, ap, sym, ◌∙◌}
use Rattle.ipam_data.specs.declared.vrf.Vrf.{Vrf}
use Rattle.ipam_data.specs.declared.prefix.Prefix.{Prefix}
use Rattle.ipam_data.specs.declared.calls.Call.{Call}
use Rattle.ipam_data.specs.declared.replies.Reply.{Reply}
use Rattle.register_plans.specs.Answered.{IsVrfReply, IsPrefixReply}
use Rattle.snapshot_rows.specs.Lists.{Lists, IsReplyTo}

pub by_vrfs : (lists : Lists) (vrfs : List Vrf) (call : Call) (reply : Reply) → vrfs ≡ lists.vrfs → IsVrfReply vrfs call reply → IsReplyTo lists call reply
by_vrfs lists vrfs call reply e h = λ s same. h s (ap (λ (l : Lists). l.vrfs) same ∙ sym e)

pub by_prefixes : (lists : Lists) (prefixes : List Prefix) (call : Call) (reply : Reply) → prefixes ≡ lists.prefixes → IsPrefixReply prefixes call reply → IsReplyTo lists call reply
by_prefixes lists prefixes call reply e h = λ s same. h s (ap (λ (l : Lists). l.prefixes) same ∙ sym e)
