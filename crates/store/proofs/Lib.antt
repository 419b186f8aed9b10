mod Chains
mod Laid
mod More
mod Packs
mod Stores
mod Trying
