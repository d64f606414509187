-- Statuses, and roles of addresses, in words: the value that names each, and the label that is shown.
use Rattle.std.specs.Prelude.{ℕ, List, codes, bytes_eq, Option, Some, None, if◌then◌else◌}
use Rattle.ipam_data.specs.declared.prefix.PrefixStatus.{PrefixStatus}
use Rattle.ipam_data.specs.declared.prefix.PrefixStatus.TheVariants.{Container, Active as ActivePrefix, Reserved as ReservedPrefix, Deprecated as DeprecatedPrefix}
use Rattle.ipam_data.specs.declared.range.RangeStatus.{RangeStatus}
use Rattle.ipam_data.specs.declared.range.RangeStatus.TheVariants.{Active as ActiveRange, Reserved as ReservedRange, Deprecated as DeprecatedRange}
use Rattle.ipam_data.specs.declared.address.AddressStatus.{AddressStatus}
use Rattle.ipam_data.specs.declared.address.AddressStatus.TheVariants.{Active as ActiveAddress, Reserved as ReservedAddress, Deprecated as DeprecatedAddress, Dhcp, Slaac}
use Rattle.ipam_data.specs.declared.address.AddressRole.{AddressRole}
use Rattle.ipam_data.specs.declared.address.AddressRole.TheVariants.{Loopback, Secondary, Anycast, Vip, Vrrp, Hsrp, Glbp, Carp}

abbrev pub prefix_status_value : PrefixStatus → List ℕ
prefix_status_value Container = codes "container"
prefix_status_value ActivePrefix = codes "active"
prefix_status_value ReservedPrefix = codes "reserved"
prefix_status_value DeprecatedPrefix = codes "deprecated"

abbrev pub prefix_status_label : PrefixStatus → List ℕ
prefix_status_label Container = codes "Container"
prefix_status_label ActivePrefix = codes "Active"
prefix_status_label ReservedPrefix = codes "Reserved"
prefix_status_label DeprecatedPrefix = codes "Deprecated"

abbrev pub range_status_value : RangeStatus → List ℕ
range_status_value ActiveRange = codes "active"
range_status_value ReservedRange = codes "reserved"
range_status_value DeprecatedRange = codes "deprecated"

abbrev pub range_status_label : RangeStatus → List ℕ
range_status_label ActiveRange = codes "Active"
range_status_label ReservedRange = codes "Reserved"
range_status_label DeprecatedRange = codes "Deprecated"

abbrev pub address_status_value : AddressStatus → List ℕ
address_status_value ActiveAddress = codes "active"
address_status_value ReservedAddress = codes "reserved"
address_status_value DeprecatedAddress = codes "deprecated"
address_status_value Dhcp = codes "dhcp"
address_status_value Slaac = codes "slaac"

abbrev pub address_status_label : AddressStatus → List ℕ
address_status_label ActiveAddress = codes "Active"
address_status_label ReservedAddress = codes "Reserved"
address_status_label DeprecatedAddress = codes "Deprecated"
address_status_label Dhcp = codes "DHCP"
address_status_label Slaac = codes "SLAAC"

abbrev pub address_role_value : AddressRole → List ℕ
address_role_value Loopback = codes "loopback"
address_role_value Secondary = codes "secondary"
address_role_value Anycast = codes "anycast"
address_role_value Vip = codes "vip"
address_role_value Vrrp = codes "vrrp"
address_role_value Hsrp = codes "hsrp"
address_role_value Glbp = codes "glbp"
address_role_value Carp = codes "carp"

abbrev pub address_role_label : AddressRole → List ℕ
address_role_label Loopback = codes "Loopback"
address_role_label Secondary = codes "Secondary"
address_role_label Anycast = codes "Anycast"
address_role_label Vip = codes "VIP"
address_role_label Vrrp = codes "VRRP"
address_role_label Hsrp = codes "HSRP"
address_role_label Glbp = codes "GLBP"
address_role_label Carp = codes "CARP"

-- the status that a word names
abbrev pub prefix_status_named : List ℕ → Option PrefixStatus
prefix_status_named text =
    if bytes_eq text (codes "container") then Some Container
    else (if bytes_eq text (codes "active") then Some ActivePrefix
    else (if bytes_eq text (codes "reserved") then Some ReservedPrefix
    else (if bytes_eq text (codes "deprecated") then Some DeprecatedPrefix else None)))

abbrev pub range_status_named : List ℕ → Option RangeStatus
range_status_named text =
    if bytes_eq text (codes "active") then Some ActiveRange
    else (if bytes_eq text (codes "reserved") then Some ReservedRange
    else (if bytes_eq text (codes "deprecated") then Some DeprecatedRange else None))

abbrev pub address_status_named : List ℕ → Option AddressStatus
address_status_named text =
    if bytes_eq text (codes "active") then Some ActiveAddress
    else (if bytes_eq text (codes "reserved") then Some ReservedAddress
    else (if bytes_eq text (codes "deprecated") then Some DeprecatedAddress
    else (if bytes_eq text (codes "dhcp") then Some Dhcp
    else (if bytes_eq text (codes "slaac") then Some Slaac else None))))

-- the role of an address that a word names
abbrev pub address_role_named : List ℕ → Option AddressRole
address_role_named text =
    if bytes_eq text (codes "loopback") then Some Loopback
    else (if bytes_eq text (codes "secondary") then Some Secondary
    else (if bytes_eq text (codes "anycast") then Some Anycast
    else (if bytes_eq text (codes "vip") then Some Vip
    else (if bytes_eq text (codes "vrrp") then Some Vrrp
    else (if bytes_eq text (codes "hsrp") then Some Hsrp
    else (if bytes_eq text (codes "glbp") then Some Glbp
    else (if bytes_eq text (codes "carp") then Some Carp else None)))))))
