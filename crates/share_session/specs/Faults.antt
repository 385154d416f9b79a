-- The names of the faults.
use Rattle.std.specs.Prelude.{ℕ, List, codes}
use Rattle.share_session.specs.declared.fault.DatagramFault.{DatagramFault}
use Rattle.share_session.specs.declared.fault.DatagramFault.TheVariants.{BadPacket, BadVersion, BadTag, BadBody}

abbrev pub datagram_fault_name : DatagramFault → List ℕ
datagram_fault_name BadPacket = codes "BadPacket"
datagram_fault_name BadVersion = codes "BadVersion"
datagram_fault_name BadTag = codes "BadTag"
datagram_fault_name BadBody = codes "BadBody"
