-- A reply to a List or a Get of VRFs or of prefixes is that of the plain step on each state with these rows.
use Rattle.std.proofs.Common.{◌≡◌, ℕ, Bool, List, [], ◌∷◌, map, filter, count_by, Option, Some, None, refl, ap, sym, subst, ◌∙◌}
use Rattle.ipam_data.specs.declared.vrf.Vrf.{Vrf}
use Rattle.ipam_data.specs.declared.prefix.Prefix.{Prefix}
use Rattle.ipam_data.specs.declared.kinds.Kind.{Kind}
use Rattle.ipam_data.specs.declared.kinds.Kind.TheVariants.{Vrfs, Prefixes}
use Rattle.ipam_data.specs.declared.calls.Call.{Call}
use Rattle.ipam_data.specs.declared.calls.Call.TheVariants.{List as ListOf, Get}
use Rattle.ipam_data.specs.declared.calls.Filter.{Filter}
use Rattle.ipam_data.specs.declared.calls.Filter.TheVariants.{Vrfs as SomeVrfs, Prefixes as SomePrefixes}
use Rattle.ipam_data.specs.declared.replies.View.{View}
use Rattle.ipam_data.specs.declared.replies.View.TheVariants.{Vrf as VrfView}
use Rattle.ipam_data.specs.declared.replies.Reply.{Reply}
use Rattle.ipam_data.specs.declared.replies.Reply.TheVariants.{One, Page}
use Rattle.ipam_data.specs.Plans.{KindRules, with_found, get, list}
use Rattle.ipam_data.specs.Prefixes.{prefix_rules, prefix_id, view_of}
use Rattle.ipam_data.specs.Vrfs.{vrf_rules}
use Rattle.ipam_data.specs.Rows.{vrf_id}
use Rattle.ipam_data.specs.RowList.{page, row_at}
use Rattle.ipam_data.specs.State.{State, reading}
use Rattle.ipam_data.specs.Steps.{plain_step, plan_of}
use Rattle.ipam_data.specs.Updates.{answered, figured, outcome}
use Rattle.ipam_data.proofs.Sound.{nothing_done}
use Rattle.register_plans.specs.Answered.{found_reply, page_reply, figured_among, IsVrfReply, IsPrefixReply}
use Rattle.ipam_data.specs.Pages.{page_of}
use Rattle.register_plans.specs.Meets.{vrf_meets, prefix_meets}

reading_step : (s : State) (reply : Reply) → outcome s (reading reply) ≡ (s, answered s reply)
reading_step s reply = ap (λ (t : State). (t, answered t reply)) (nothing_done s)

-- a kind whose rows are answered so, with their figures
module _ {T : Type 0} (rules : KindRules T) (view : T → View) (s : State) (shows : (row : T) → figured s (rules.view row) ≡ view row) where
  found_step : (n : ℕ) (found : Option T) → outcome s (with_found rules n (λ row. reading (One (rules.view row))) found) ≡ (s, found_reply rules.kind view n found)
  found_step n None = refl
  found_step n (Some row) = reading_step s (One (rules.view row)) ∙ ap (λ (v : View). (s, One v)) (shows row)

  views_step : (rows : List T) → map (figured s) (map rules.view rows) ≡ map view rows
  views_step [] = refl
  views_step (x ∷ xs) = λ i. shows x i ∷ views_step xs i

  page_step : (meets : T → Bool) (limit offset : ℕ) → outcome s (list rules s meets limit offset) ≡ (s, page_reply view meets limit offset (rules.row_list s).rows)
  page_step meets limit offset =
      let rows = (rules.row_list s).rows in
      reading_step s (page_reply rules.view meets limit offset rows)
      ∙ ap (λ (views : List View). (s, Page (count_by meets rows) views)) (views_step (page limit offset (filter meets rows)))

pub vrf_found : (vrfs : List Vrf) (call : Call) (kind : Kind) (n : ℕ) (reply : Reply) → call ≡ Get kind n → kind ≡ Vrfs → reply ≡ found_reply Vrfs VrfView n (row_at vrf_id vrfs n) → IsVrfReply vrfs call reply
vrf_found vrfs call kind n reply c k r = λ s same.
    ap (plain_step s) (c ∙ ap (λ (x : Kind). Get x n) k) ∙ found_step vrf_rules VrfView s (λ row. refl) n (row_at vrf_id s.vrfs.rows n)
    ∙ ap (λ (rows : List Vrf). (s, found_reply Vrfs VrfView n (row_at vrf_id rows n))) same ∙ ap (λ (q : Reply). (s, q)) (sym r)

pub vrf_listed : (vrfs : List Vrf) (call : Call) (kind : Kind) (asked : Filter) (name rd : Option (List ℕ)) (limit offset : ℕ) (reply : Reply) → call ≡ ListOf kind asked limit offset → asked ≡ SomeVrfs name rd
    → reply ≡ page_reply VrfView (vrf_meets asked) limit offset vrfs → IsVrfReply vrfs call reply
vrf_listed vrfs call kind asked name rd limit offset reply c f r = λ s same.
    ap (plain_step s) (c ∙ ap (λ (x : Filter). ListOf kind x limit offset) f)
    ∙ page_step vrf_rules VrfView s (λ row. refl) (vrf_meets (SomeVrfs name rd)) limit offset
    ∙ ap (λ (rows : List Vrf). (s, page_reply VrfView (vrf_meets (SomeVrfs name rd)) limit offset rows)) same
    ∙ ap (λ (q : Reply). (s, q)) (sym (r ∙ ap (λ (x : Filter). page_reply VrfView (vrf_meets x) limit offset vrfs) f))

pub prefix_found : (prefixes : List Prefix) (call : Call) (kind : Kind) (n : ℕ) (reply : Reply) → call ≡ Get kind n → kind ≡ Prefixes
    → reply ≡ found_reply Prefixes (view_of prefixes) n (row_at prefix_id prefixes n) → IsPrefixReply prefixes call reply
prefix_found prefixes call kind n reply c k r = λ s same.
    ap (plain_step s) (c ∙ ap (λ (x : Kind). Get x n) k) ∙ found_step prefix_rules (view_of s.prefixes.rows) s (λ row. refl) n (row_at prefix_id s.prefixes.rows n)
    ∙ ap (λ (rows : List Prefix). (s, found_reply Prefixes (view_of rows) n (row_at prefix_id rows n))) same ∙ ap (λ (q : Reply). (s, q)) (sym r)

pub prefix_listed : (prefixes : List Prefix) (call : Call) (kind : Kind) (asked some : Filter) (limit offset : ℕ) (reply : Reply) → call ≡ ListOf kind asked limit offset → asked ≡ some
    → ((s : State) → plain_step s (ListOf kind some limit offset) ≡ outcome s (list prefix_rules s (prefix_meets some) limit offset))
    → reply ≡ page_reply (view_of prefixes) (prefix_meets asked) limit offset prefixes → IsPrefixReply prefixes call reply
prefix_listed prefixes call kind asked some limit offset reply c f plain r = λ s same.
    ap (plain_step s) (c ∙ ap (λ (x : Filter). ListOf kind x limit offset) f) ∙ plain s
    ∙ page_step prefix_rules (view_of s.prefixes.rows) s (λ row. refl) (prefix_meets some) limit offset
    ∙ ap (λ (rows : List Prefix). (s, page_reply (view_of rows) (prefix_meets some) limit offset rows)) same
    ∙ ap (λ (q : Reply). (s, q)) (sym (r ∙ ap (λ (x : Filter). page_reply (view_of prefixes) (prefix_meets x) limit offset prefixes) f))

-- prefixes as they are answered, from those without figures
figured_views : (prefixes rows : List Prefix) → map (figured_among prefixes) (map prefix_rules.view rows) ≡ map (view_of prefixes) rows
figured_views prefixes [] = refl
figured_views prefixes (x ∷ xs) = ap (λ (views : List View). view_of prefixes x ∷ views) (figured_views prefixes xs)

-- the page of prefixes, from that without figures
pub prefix_page_is : (prefixes : List Prefix) (asked : Filter) (limit offset count : ℕ) (views shown : List View) → count ≡ count_by (prefix_meets asked) prefixes
    → views ≡ page_of prefix_rules.view (prefix_meets asked) limit offset prefixes → shown ≡ map (figured_among prefixes) views
    → Page count shown ≡ page_reply (view_of prefixes) (prefix_meets asked) limit offset prefixes
prefix_page_is prefixes asked limit offset count views shown c v f =
    let same : shown ≡ page_of (view_of prefixes) (prefix_meets asked) limit offset prefixes =
    f ∙ (ap (λ (vs : List View). map (figured_among prefixes) vs) v ∙ figured_views prefixes (page limit offset (filter (prefix_meets asked) prefixes))) in
    λ i. Page (c i) (same i)
