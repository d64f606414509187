-- A conversation with pools, worked out by evaluation.
use Rattle.std.proofs.Common.{◌≡◌, List, [], ◌∷◌, ◌++◌, true, false, Some, None, refl}
use Rattle.inet_num.specs.Count.{numbers_from}
use Rattle.number_pools.specs.declared.rows.PoolKind.TheVariants.{Asn, Vlan}
use Rattle.number_pools.specs.declared.calls.PoolCall.{PoolCall}
use Rattle.number_pools.specs.declared.calls.PoolCall.TheVariants as call
use Rattle.number_pools.specs.declared.calls.PoolReply.{PoolReply}
use Rattle.number_pools.specs.declared.calls.PoolReply.TheVariants.{Made, Claimed, ChangedMember, ChangedRange, Members, Numbers, OneMember, OneRange, Refused}
use Rattle.number_pools.specs.declared.calls.PoolRefusal.TheVariants.{Absent, NameTaken, Bounds, InUse, NoSpace, Outside, Taken, Repeated}
use Rattle.number_pools.specs.Rows.{Pools, empty_pools}
use Rattle.number_pools.specs.Steps.{plain_pool_step}

-- the state after calls, one after another
abbrev after : Pools → List PoolCall → Pools
after s [] = s
after s (c ∷ cs) = after (plain_pool_step s c).0 cs

abbrev answer : List PoolCall → PoolCall → PoolReply
answer calls c = (plain_pool_step (after empty_pools calls) c).1

-- a range of three numbers, of which two are claimed
abbrev two_claimed : List PoolCall
two_claimed = call.AddRange Asn (97 ∷ []) 64512 64514 ∷ call.Claim Asn 1 true ([] ∷ [] ∷ []) ∷ []

-- and one that begins within it
abbrev and_another : List PoolCall
and_another = call.AddRange Asn (97 ∷ []) 64512 64514 ∷ call.Claim Asn 1 true ([] ∷ [] ∷ []) ∷ call.AddRange Asn (98 ∷ []) 64513 64515 ∷ []

-- and a group of VLANs, from 1 to 3
abbrev and_group : List PoolCall
and_group =
    call.AddRange Asn (97 ∷ []) 64512 64514 ∷ call.Claim Asn 1 true ([] ∷ [] ∷ []) ∷ call.AddRange Asn (98 ∷ []) 64513 64515
    ∷ call.AddRange Vlan (97 ∷ []) 1 3 ∷ call.Claim Vlan 3 false ((118 ∷ []) ∷ []) ∷ []

-- the least two numbers are given out, in order
gives_least : answer (call.AddRange Asn (97 ∷ []) 64512 64514 ∷ []) (call.Claim Asn 1 true ([] ∷ [] ∷ []))
    ≡ Claimed (record { id = 1; range = 1; number = 64512; name = [] } ∷ record { id = 2; range = 1; number = 64513; name = [] } ∷ [])
unfolding numbers_from
gives_least = refl

-- what one range of ASNs gave out is not free in another
not_again : answer and_another (call.Available Asn 2 50) ≡ Numbers (64514 ∷ 64515 ∷ [])
unfolding numbers_from
not_again = refl

-- a claim with more items than there are free numbers gets none of them
all_or_none : answer and_another (call.Claim Asn 2 true ([] ∷ [] ∷ [] ∷ [])) ≡ Refused (NoSpace 2)
unfolding numbers_from
all_or_none = refl

-- each group of VLANs has numbers of its own, and names are unique among ranges of one kind alone; ids count over both kinds
own_numbers : answer and_another (call.AddRange Vlan (97 ∷ []) 1 3) ≡ Made (record { id = 3; kind = Vlan; name = 97 ∷ []; first = 1; last = 3 })
unfolding numbers_from
own_numbers = refl

first_vlan : answer and_group (call.Members Vlan 3) ≡ Members (record { id = 3; range = 3; number = 1; name = 118 ∷ [] } ∷ [])
unfolding numbers_from
first_vlan = refl

-- an id of the other kind is as good as none
other_kind : answer and_group (call.CutMember Asn 3) ≡ Refused (Absent 3)
unfolding numbers_from
other_kind = refl

-- a name that is taken comes before bounds that do not fit
name_first : answer two_claimed (call.AddRange Asn (97 ∷ []) 5 4) ≡ Refused (NameTaken 1)
unfolding numbers_from
name_first = refl

-- 4095 is no VLAN, and 0 no number of an autonomous system
no_vlan : answer two_claimed (call.AddRange Vlan (98 ∷ []) 1 4095) ≡ Refused Bounds
unfolding numbers_from
no_vlan = refl

no_asn : answer two_claimed (call.AddRange Asn (98 ∷ []) 0 4) ≡ Refused Bounds
unfolding numbers_from
no_asn = refl

-- a range stays while it has members
in_use : answer two_claimed (call.CutRange Asn 1) ≡ Refused (InUse 1)
unfolding numbers_from
in_use = refl

-- a number that came back is given out again, under a new id
again : answer (call.AddRange Asn (97 ∷ []) 64512 64514 ∷ call.Claim Asn 1 true ([] ∷ [] ∷ []) ∷ call.CutMember Asn 1 ∷ []) (call.Claim Asn 1 false ([] ∷ []))
    ≡ Claimed (record { id = 3; range = 1; number = 64512; name = [] } ∷ [])
unfolding numbers_from
again = refl

-- a chosen number is recorded, with its name, and a claim does not get it
abbrev recorded : List PoolCall
recorded = call.AddRange Asn (97 ∷ []) 64512 64514 ∷ call.Record Asn 1 false (record { number = 64512; name = 98 ∷ [] } ∷ []) ∷ []

chosen : answer (call.AddRange Asn (97 ∷ []) 64512 64514 ∷ []) (call.Record Asn 1 false (record { number = 64512; name = 98 ∷ [] } ∷ []))
    ≡ Claimed (record { id = 1; range = 1; number = 64512; name = 98 ∷ [] } ∷ [])
unfolding numbers_from
chosen = refl

claimed_past : answer recorded (call.Claim Asn 1 false ([] ∷ [])) ≡ Claimed (record { id = 2; range = 1; number = 64513; name = [] } ∷ [])
unfolding numbers_from
claimed_past = refl

-- a number that is none of the range comes before one that is taken, as the items have them; and none is recorded
in_order : answer recorded (call.Record Asn 1 true (record { number = 64513; name = [] } ∷ record { number = 64515; name = [] } ∷ record { number = 64512; name = [] } ∷ [])) ≡ Refused (Outside 64515)
unfolding numbers_from
in_order = refl

-- a number that a member holds, by whatever range of ASNs
is_taken : answer (recorded ++ call.AddRange Asn (98 ∷ []) 64510 64515 ∷ []) (call.Record Asn 2 false (record { number = 64512; name = [] } ∷ [])) ≡ Refused (Taken 64512 1)
unfolding numbers_from
is_taken = refl

-- one number for two items
twice : answer recorded (call.Record Asn 1 true (record { number = 64513; name = [] } ∷ record { number = 64513; name = [] } ∷ [])) ≡ Refused (Repeated 64513)
unfolding numbers_from
twice = refl

-- a range and a member are read under an id of their kind
one : answer recorded (call.OneRange Asn 1) ≡ OneRange (record { id = 1; kind = Asn; name = 97 ∷ []; first = 64512; last = 64514 })
one = refl

one_member : answer recorded (call.OneMember Asn 1) ≡ OneMember (record { id = 1; range = 1; number = 64512; name = 98 ∷ [] })
one_member = refl

one_of_other : answer recorded (call.OneMember Vlan 1) ≡ Refused (Absent 1)
one_of_other = refl

-- an edit leaves what it does not give
renamed : answer recorded (call.EditMember Asn 1 (Some (99 ∷ []))) ≡ ChangedMember (record { id = 1; range = 1; number = 64512; name = 99 ∷ [] })
renamed = refl

left : answer recorded (call.EditMember Asn 1 None) ≡ ChangedMember (record { id = 1; range = 1; number = 64512; name = 98 ∷ [] })
left = refl

longer : answer recorded (call.EditRange Asn 1 None None (Some 64515)) ≡ ChangedRange (record { id = 1; kind = Asn; name = 97 ∷ []; first = 64512; last = 64515 })
longer = refl

-- the name of another range comes before bounds that do not fit, these before a member outside them, and its own name is free to a range
name_of_other : answer (recorded ++ call.AddRange Asn (98 ∷ []) 1 2 ∷ []) (call.EditRange Asn 1 (Some (98 ∷ [])) (Some 9) (Some 8)) ≡ Refused (NameTaken 2)
name_of_other = refl

no_bounds : answer recorded (call.EditRange Asn 1 (Some (97 ∷ [])) (Some 64516) None) ≡ Refused Bounds
no_bounds = refl

outside : answer recorded (call.EditRange Asn 1 None (Some 64513) None) ≡ Refused (InUse 1)
outside = refl

-- what an edit adds is given out
more_free : answer (recorded ++ call.EditRange Asn 1 None None (Some 64515) ∷ []) (call.Available Asn 1 50) ≡ Numbers (64513 ∷ 64514 ∷ 64515 ∷ [])
unfolding numbers_from
more_free = refl
