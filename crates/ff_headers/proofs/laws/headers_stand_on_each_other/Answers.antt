use Rattle.ff_headers.proofs.CutLemmas.{ipv4_is_alone, tcp_is_alone, ports_stand_on_ip, ip_stands_on_ethernet}
use Rattle.ff_headers.proofs.laws.headers_stand_on_each_other.Goals as goal

pub returns-clause-one_ip : goal.returns-clause-one_ip
returns-clause-one_ip c = ipv4_is_alone

pub returns-clause-one_ports : goal.returns-clause-one_ports
returns-clause-one_ports c = tcp_is_alone

pub returns-clause-ports_on_ip : goal.returns-clause-ports_on_ip
returns-clause-ports_on_ip c = ports_stand_on_ip

pub returns-clause-ip_on_ethernet : goal.returns-clause-ip_on_ethernet
returns-clause-ip_on_ethernet c = ip_stands_on_ethernet
